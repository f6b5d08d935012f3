use Rattle.std.proofs.Common.{◌≡◌, ◌++◌, drop, map}
use Rattle.std.specs.List.{AllByRecursion}
use Rattle.bib_syntax.specs.Views.{field_of}
use Rattle.edit_strings.specs.Tables.{IsExpansionCut, expansion_by, field_edits, index_by_lowercase, rows_of}
use Rattle.edit_entries.specs.EditList.{edit_of}
use Rattle.edit_strings.proofs.expanding.push_expansions.Given as goal

-- the edits so far and those of the fields still to visit are those of all fields
abbrev pub invariant-fields : goal.invariant-fields
invariant-fields l = record {
  added : map edit_of l.edits.items
      ++ field_edits (expansion_by l.names.text.now (rows_of l.names.rows.items) (index_by_lowercase l.indices))
      l.names.text.now (map field_of (drop l.field-index l.fields))
      ≡ map edit_of l.initial.edits.items
      ++ field_edits (expansion_by l.names.text.now (rows_of l.names.rows.items) (index_by_lowercase l.indices))
      l.names.text.now (map field_of l.fields);
  cut : AllByRecursion (IsExpansionCut l.names.text.now (rows_of l.names.rows.items) (index_by_lowercase l.indices))
      (map field_of (drop l.field-index l.fields));
}
