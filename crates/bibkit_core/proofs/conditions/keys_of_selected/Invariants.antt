use Rattle.std.proofs.Common.{◌≡◌, map, take}
use Rattle.bibkit_core.specs.Conditions.{selected_keys}
use Rattle.bibkit_core.proofs.conditions.keys_of_selected.Given as goal

abbrev pub invariant-entries : goal.invariant-entries
invariant-entries l = map (λ key. key.now) l.keys.items ≡ selected_keys l.conditions (take l.entry-index l.entries)
