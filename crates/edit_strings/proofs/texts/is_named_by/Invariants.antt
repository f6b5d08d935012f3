use Rattle.std.proofs.Common.{◌≡◌, drop}
use Rattle.bib_syntax.specs.Views.{field_of}
use Rattle.edit_strings.specs.Collected.{is_named_by}
use Rattle.edit_strings.specs.Views.{lent_texts}
use Rattle.edit_strings.proofs.texts.is_named_by.Given as goal

abbrev pub invariant-names : goal.invariant-names
invariant-names l =
    is_named_by (lent_texts l.names) (field_of l.field)
    ≡ is_named_by (lent_texts (drop l.name-index l.names)) (field_of l.field)
