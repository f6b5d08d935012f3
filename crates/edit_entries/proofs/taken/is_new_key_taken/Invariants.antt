use Rattle.std.proofs.Common.{◌≡◌, ◌<◌, ◌++◌, ℕ, List, Some, false, map, take}
use Rattle.std.specs.BTreeSet.{contains_text}
use Rattle.bib_syntax.specs.Reading.{EntryReading}
use Rattle.bib_syntax.specs.Views.{entry_reading_of}
use Rattle.edit_entries.specs.NameSets.{holds_name}
use Rattle.edit_entries.specs.NewKeys.{key_for}
use Rattle.edit_entries.specs.NewNames.{has_word, new_keys, staying_names}
use Rattle.edit_entries.proofs.taken.is_new_key_taken.Given as goal

-- the set has the names that stay and the new keys so far, and none of these keys was taken
abbrev pub invariant-entries : goal.invariant-entries
invariant-entries l =
    let entries : List EntryReading = map entry_reading_of l.entries in
    let staying : List (List ℕ) = staying_names (key_for l.keys) 0 entries in
    ((name : List ℕ) → holds_name (contains_text l.set) name
    ≡ has_word (staying ++ new_keys (key_for l.keys) 0 (map entry_reading_of (take l.index l.entries))) name)
    × ((k : ℕ) (new : List ℕ) → k < l.index → key_for l.keys k ≡ Some new
    → has_word (staying ++ new_keys (key_for l.keys) 0 (take k entries)) new ≡ false)
