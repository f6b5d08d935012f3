use Rattle.std.proofs.Common.{◌≡◌, ℕ, List, map, take}
use Rattle.std.specs.Prelude.{◌||◌}
use Rattle.std.specs.BTreeSet.{contains_text}
use Rattle.edit_entries.specs.NameSets.{holds_name}
use Rattle.edit_entries.specs.NewNames.{has_word}
use Rattle.edit_entries.proofs.joining.insert_names.Given as goal

-- the set has the names so far, and those that it had
abbrev pub invariant-names : goal.invariant-names
invariant-names l =
    (name : List ℕ) → holds_name (contains_text l.set) name
    ≡ (has_word (map (λ n. n.now) (take l.name-index l.names)) name || holds_name (contains_text l.initial.set) name)
