use Rattle.std.proofs.Common.{◌≡◌, ◌++◌, List, ℕ, drop, map}
use Rattle.bib_syntax.specs.Views.{field_of}
use Rattle.edit_entries.specs.Changes.{edits_of_fields}
use Rattle.edit_entries.specs.EditList.{edit_of}
use Rattle.edit_entry_merge.specs.Working.{all_removed}
use Rattle.edit_entry_merge.proofs.closing.push_removals.Given as goal

-- the edits so far, followed by those of the remaining fields, are the result
abbrev pub invariant-fields : goal.invariant-fields
invariant-fields l =
    (text : List ℕ) → map edit_of l.edits.items
    ++ edits_of_fields text (map field_of (drop l.index l.fields)) (all_removed (map field_of (drop l.index l.fields)))
    ≡ map edit_of l.fn.edits.items ++ edits_of_fields text (map field_of l.fields) (all_removed (map field_of l.fields))
