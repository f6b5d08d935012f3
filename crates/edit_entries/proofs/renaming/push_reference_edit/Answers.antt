use Rattle.std.proofs.Common.{sym, ap, ◌∙◌, subst}
use Rattle.std.specs.List.{AllByRecursion}
use Rattle.std.specs.Option.{option_map}
use Rattle.std.specs.String.{string_bytes}
use Rattle.bib_syntax.specs.Views.{field_of}
use Rattle.edit_entries.specs.References.{value_change}
use Rattle.edit_entries.specs.Stretches.{EndsInWhite}
use Rattle.edit_entries.proofs.renaming.push_reference_edit.Goals as goal

pub returns-in_ok-push_value_edit-in-Some-clause-white : goal.returns-in_ok-push_value_edit-in-Some-clause-white
returns-in_ok-push_value_edit-in-Some-clause-white c =
    subst (λ o. AllByRecursion (EndsInWhite c.args.text.now) (value_change (field_of c.args.field.now) o))
    (ap (option_map string_bytes) (sym c.in-Some.is) ∙ c.in_ok-value.ensures)
    (c.in_ok-push_value_edit-in-Some.ensures.white (string_bytes c.in-Some.value), tt)
