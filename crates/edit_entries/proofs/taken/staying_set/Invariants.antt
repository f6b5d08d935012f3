use Rattle.std.proofs.Common.{◌≡◌, ℕ, List, map, take}
use Rattle.std.specs.BTreeSet.{contains_text}
use Rattle.bib_syntax.specs.Views.{entry_reading_of}
use Rattle.edit_entries.specs.NameSets.{holds_name}
use Rattle.edit_entries.specs.NewKeys.{key_for}
use Rattle.edit_entries.specs.NewNames.{has_word, staying_names}
use Rattle.edit_entries.proofs.taken.staying_set.Given as goal

-- the set has the names of the entries so far that stay
abbrev pub invariant-entries : goal.invariant-entries
invariant-entries l =
    (name : List ℕ) → holds_name (contains_text l.set) name
    ≡ has_word (staying_names (key_for l.keys) 0 (map entry_reading_of (take l.index l.entries))) name
