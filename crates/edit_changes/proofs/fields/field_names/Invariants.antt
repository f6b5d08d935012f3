use Rattle.std.proofs.Common.{◌≡◌, ◌++◌, drop, map, take}
use Rattle.bib_syntax.specs.Views.{field_of}
use Rattle.edit_versions.specs.Versions.{unique_names}
use Rattle.edit_changes.specs.Counts.{AreCounts}
use Rattle.edit_changes.specs.Fields.{field_names}
use Rattle.edit_changes.proofs.FieldFacts.{lower_names}
use Rattle.edit_changes.proofs.fields.field_names.Given as goal

-- `names` has the names of the fields so far, and `counts` has the numbers of their names in lowercase
abbrev pub invariant-fields : goal.invariant-fields
invariant-fields l = record {
  counted : AreCounts (lower_names (take l.field-index l.fields)) l.counts;
  named : l.names.items ++ unique_names (lower_names (take l.field-index l.fields)) (lower_names (drop l.field-index l.fields))
      ≡ field_names (map field_of l.fields);
}
