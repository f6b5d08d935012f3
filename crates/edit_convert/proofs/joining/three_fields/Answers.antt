use Rattle.std.proofs.Common.{ap, ◌∙◌, Some}
use Rattle.std.specs.Prelude.{option_copied, option_map}
use Rattle.bib_chunks.specs.Values.{text}
use Rattle.bib_dates.specs.Chunks.{three_fields_reading}
use Rattle.bib_dates.specs.Readings.{MayRefuse}
use Rattle.edit_convert.specs.Tables.{lent_text}
use Rattle.edit_convert.proofs.DateReadFacts.{three_read_as, three_unread}
use Rattle.edit_convert.proofs.joining.three_fields.Goals as goal

pub returns-in-Ok : goal.returns-in-Ok
returns-in-Ok c =
    three_read_as c.as_slice.result.now c.as_slice-2.result.now (option_copied c.lent_chunks.result) c.args.year.now
    c.args.month.now (lent_text c.args.day) c.in-Ok.date
    (ap text c.as_slice.ensures ∙ c.in_ok-year.ensures) (ap text c.as_slice-2.ensures ∙ c.in_ok-month.ensures)
    (ap (option_map text) c.lent_chunks.ensures ∙ c.in_ok-day.ensures) c.in-Ok.ensures.reads

pub returns : goal.returns
returns c =
    three_unread c.as_slice.result.now c.as_slice-2.result.now (option_copied c.lent_chunks.result) c.args.year.now
    c.args.month.now (lent_text c.args.day)
    (MayRefuse
    (three_fields_reading c.as_slice.result.now (Some c.as_slice-2.result.now)
    (option_copied c.lent_chunks.result))) c.in-Err.error
    (ap text c.as_slice.ensures ∙ c.in_ok-year.ensures) (ap text c.as_slice-2.ensures ∙ c.in_ok-month.ensures)
    (ap (option_map text) c.lent_chunks.ensures ∙ c.in_ok-day.ensures) c.in-Err.ensures.reads
    c.in_ok-_unread-in-Err.ensures.ok.1
