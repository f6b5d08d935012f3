use Rattle.std.proofs.Common.{◌≡◌, ℕ, List, map, take}
use Rattle.bib_syntax.specs.Views.{entry_reading_of}
use Rattle.edit_entries.specs.Documents.{first_position}
use Rattle.edit_entries.specs.NewKeys.{index_for_word}
use Rattle.edit_entries.specs.References.{has_key_word}
use Rattle.edit_entries.proofs.new_keys.lowercase_indices.Given as goal

abbrev pub invariant-entries : goal.invariant-entries
invariant-entries l =
    (name : List ℕ) → index_for_word l.indices name ≡ first_position (has_key_word name) (map entry_reading_of (take l.index l.entries))
