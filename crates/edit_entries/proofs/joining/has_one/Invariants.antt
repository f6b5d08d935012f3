use Rattle.std.proofs.Common.{◌≡◌, false, map, take}
use Rattle.std.specs.BTreeSet.{contains_text}
use Rattle.std.specs.List.{list_any}
use Rattle.edit_entries.specs.NameSets.{holds_name}
use Rattle.edit_entries.proofs.joining.has_one.Given as goal

abbrev pub invariant-names : goal.invariant-names
invariant-names l = list_any (holds_name (contains_text l.set)) (map (λ n. n.now) (take l.name-index l.names)) ≡ false
