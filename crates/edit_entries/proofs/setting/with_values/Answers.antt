use Rattle.std.proofs.Common.{map, sym, ap, ◌∙◌}
use Rattle.std.specs.List.{list_any}
use Rattle.bib_syntax.specs.Views.{entry_reading_of, field_of}
use Rattle.edit_entries.specs.Setting.{has_other_value, value_of}
use Rattle.edit_entries.specs.Edits.{edited_all}
use Rattle.edit_entries.proofs.SetFacts.{no_value_edits}
use Rattle.edit_entries.proofs.setting.with_values.Goals as goal

pub returns-then-not-has_field_to_set-clause-text : goal.returns-then-not-has_field_to_set-clause-text
returns-then-not-has_field_to_set-clause-text c =
    c.in_ok-from_str.ensures.ok
    ∙ ap (λ edits. edited_all edits c.args.text.now)
    (sym
    (no_value_edits c.args.text.now c.args.name.now (value_of c.args.value) (entry_reading_of c.args.entry.now).fields
    (ap (λ fs. list_any (has_other_value c.args.name.now (value_of c.args.value)) (map field_of fs)) (sym c.as_slice-fields.ensures.value)
    ∙ sym c.has_field_to_set.ensures ∙ c.if-not-has_field_to_set.true)))
