use Rattle.std.proofs.Common.{◌≡◌, drop, map}
use Rattle.std.specs.List.{list_all}
use Rattle.bib_syntax.specs.Views.{field_of}
use Rattle.edit_entries.specs.Documents.{has_name}
use Rattle.edit_entries.proofs.removing.are_named.Given as goal

abbrev pub invariant-fields : goal.invariant-fields
invariant-fields l =
    list_all (has_name l.name) (map field_of l.fields) ≡ list_all (has_name l.name) (map field_of (drop l.field-index l.fields))
