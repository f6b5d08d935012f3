use Rattle.std.proofs.Common.{◌≡◌, ◌++◌, map, take}
use Rattle.bib_syntax.specs.Views.{field_of}
use Rattle.edit_strings.specs.Collected.{field_texts}
use Rattle.edit_strings.specs.Views.{lent_texts}
use Rattle.edit_strings.proofs.texts.push_texts.Given as goal

abbrev pub invariant-fields : goal.invariant-fields
invariant-fields l =
    lent_texts l.texts.items
    ≡ lent_texts l.initial.texts.items
    ++ field_texts (lent_texts l.names) (map field_of (take l.field-index l.fields))
