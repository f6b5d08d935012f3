use Rattle.std.proofs.Common.{◌≡◌, ◌++◌, ℕ, List, drop, map}
use Rattle.bib_syntax.specs.Views.{field_of}
use Rattle.edit_entries.specs.Changes.{edits_of_fields}
use Rattle.edit_entries.specs.EditList.{edit_of}
use Rattle.edit_entries.specs.FieldEdits.{name_change}
use Rattle.edit_entries.proofs.field_edits.push_names.Given as goal

-- the edits of the fields that are left are those that are still to be added
abbrev pub invariant-fields : goal.invariant-fields
invariant-fields l =
    (text : List ℕ) → map edit_of l.edits.items
    ++ edits_of_fields text (map field_of (drop l.field-index l.fields))
    (map (name_change l.old l.new) (map field_of (drop l.field-index l.fields)))
    ≡ map edit_of l.initial.edits.items
    ++ edits_of_fields text (map field_of l.fields) (map (name_change l.old l.new) (map field_of l.fields))
