use Rattle.std.proofs.Common.{sym, ap, ◌∙◌}
use Rattle.std.specs.Prelude.{is_some}
use Rattle.bib_text.proofs.OptionFacts.{some_mapped}
use Rattle.edit_convert.specs.Tables.{sides_as_written}
use Rattle.edit_convert.proofs.ReplacementFacts.{parts_replace}
use Rattle.edit_convert.proofs.notes.is_replaced.Goals as goal

pub returns : goal.returns
returns c =
    parts_replace c.args.changes.now.defines c.is_some.result _ _ _ _ (sym c.is_replaced_by_one.ensures ∙ c.if-is_replaced_by_one.false)
    (c.is_some.ensures ∙ sym (some_mapped sides_as_written _) ∙ ap is_some c.in_ok-date_to_divide.ensures)
