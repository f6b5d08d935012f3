use Rattle.std.proofs.Common.{length, ap, ◌∙◌}
use Rattle.std.specs.Prelude.{◌==◌, if◌then◌else◌, string_bytes}
use Rattle.bib.specs.Output.{ShowsReports}
use Rattle.bib.proofs.Answers.{no_bibliography_shown, bibliography_shown}
use Rattle.bib.proofs.ReportFacts.{reports_shown}
use Rattle.bib.proofs.run.check.Goals as goal

pub returns-in-Err : goal.returns-in-Err
returns-in-Err c =
    no_bibliography_shown {shows = ShowsReports} c.in_ok-bibliography.field-0 c.in-Err.answer
    c.in_ok-bibliography.ensures.text c.in_ok-bibliography.ensures.bibliography c.in-Err.is

pub returns : goal.returns
returns c =
    let status = c.status_of.ensures ∙ ap (λ text. if length text == 0 then 0 else 4) c.deref.ensures in
    bibliography_shown {shows = ShowsReports} c.in_ok-bibliography.field-0 c.in-Ok.bibliography
    c.in_ok-bibliography.ensures.text c.in_ok-bibliography.ensures.bibliography c.in-Ok.is
    (reports_shown c.in-Ok.bibliography (string_bytes c.in_ok-text.text) c.status_of.result c.in_ok-text.ensures status)
