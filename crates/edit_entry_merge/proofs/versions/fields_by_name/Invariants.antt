use Rattle.std.proofs.Common.{◌≡◌, map, take}
use Rattle.bib_syntax.specs.Views.{field_of}
use Rattle.edit_entry_merge.specs.Versions.{have_distinct_names}
use Rattle.edit_entry_merge.specs.Working.{HasFirst}
use Rattle.edit_entry_merge.proofs.versions.fields_by_name.Given as goal

abbrev pub invariant-fields : goal.invariant-fields
invariant-fields l = record {
  first : HasFirst l.names (map field_of (take l.field-index l.fields));
  distinct : l.are_distinct ≡ have_distinct_names (map field_of (take l.field-index l.fields));
}
