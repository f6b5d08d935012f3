use Rattle.std.proofs.Common.{◌∙◌}
use Rattle.bib_dates.specs.Chunks.{date_reading}
use Rattle.bib_dates.specs.Readings.{MayRefuse}
use Rattle.edit_convert.proofs.DateReadFacts.{date_is, no_date_is}
use Rattle.edit_convert.proofs.dates.is_date.Goals as goal

pub returns-in-Ok : goal.returns-in-Ok
returns-in-Ok c =
    date_is c.as_slice.result.now c.args.text.now c.in-Ok._date c.utf8.text
    (c.as_slice.ensures ∙ c.in_ok-chunks.ensures) c.in-Ok.ensures.reads

pub returns : goal.returns
returns c =
    no_date_is c.as_slice.result.now c.args.text.now (MayRefuse (date_reading c.as_slice.result.now)) c.in-Err.error
    c.utf8.text (c.as_slice.ensures ∙ c.in_ok-chunks.ensures) c.in-Err.ensures.reads
    c.in_ok-_unread-in-Err.ensures.ok.1
