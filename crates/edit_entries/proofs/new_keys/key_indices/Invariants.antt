use Rattle.std.proofs.Common.{◌≡◌, ℕ, List, map, take}
use Rattle.bib_syntax.specs.Views.{entry_reading_of}
use Rattle.edit_entries.specs.Documents.{first_position, is_keyed}
use Rattle.edit_entries.specs.NewKeys.{index_for}
use Rattle.edit_entries.proofs.new_keys.key_indices.Given as goal

abbrev pub invariant-entries : goal.invariant-entries
invariant-entries l =
    (name : List ℕ) → index_for l.indices name ≡ first_position (is_keyed name) (map entry_reading_of (take l.index l.entries))
