use Rattle.std.proofs.Common.{◌≡◌, drop, map}
use Rattle.std.specs.List.{list_any}
use Rattle.bib_syntax.specs.Views.{field_of}
use Rattle.edit_convert.specs.Conversions.{is_field_there}
use Rattle.edit_strings.specs.Views.{lent_texts}
use Rattle.edit_convert.proofs.fields.has_any.Given as goal

abbrev pub invariant-names : goal.invariant-names
invariant-names l =
    list_any (is_field_there (map field_of l.fields)) (lent_texts l.names)
    ≡ list_any (is_field_there (map field_of l.fields)) (lent_texts (drop l.name-index l.names))
