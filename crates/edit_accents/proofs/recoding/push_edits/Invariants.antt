use Rattle.std.proofs.Common.{◌≡◌, ◌++◌, drop, map}
use Rattle.std.specs.List.{AllByRecursion}
use Rattle.bib_syntax.specs.Views.{field_of}
use Rattle.edit_entries.specs.EditList.{edit_of}
use Rattle.edit_strings.specs.Tables.{IsFieldCut, field_edits}
use Rattle.edit_accents.specs.Recoded.{recoding}
use Rattle.edit_accents.proofs.recoding.push_edits.Given as goal

-- the edits so far and those of the fields still to visit are those of all fields
abbrev pub invariant-fields : goal.invariant-fields
invariant-fields l = record {
  added : map edit_of l.edits.items ++ field_edits (recoding l.form l.text) l.text (map field_of (drop l.field-index l.fields))
      ≡ map edit_of l.initial.edits.items ++ field_edits (recoding l.form l.text) l.text (map field_of l.fields);
  cut : AllByRecursion (IsFieldCut l.text) (map field_of (drop l.field-index l.fields));
}
