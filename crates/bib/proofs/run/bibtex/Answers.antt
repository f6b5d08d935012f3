use Rattle.std.proofs.Common.{refl}
use Rattle.bib.specs.Output.{ShowsBibtex}
use Rattle.bib.proofs.Answers.{no_bibliography_shown, bibliography_shown}
use Rattle.bib.proofs.run.bibtex.Goals as goal

pub returns-in-Err : goal.returns-in-Err
returns-in-Err c =
    no_bibliography_shown {shows = ShowsBibtex} c.in_ok-bibliography.field-0 c.in-Err.answer
    c.in_ok-bibliography.ensures.text c.in_ok-bibliography.ensures.bibliography c.in-Err.is

pub returns : goal.returns
returns c =
    bibliography_shown {shows = ShowsBibtex} c.in_ok-bibliography.field-0 c.in-Ok.bibliography
    c.in_ok-bibliography.ensures.text c.in_ok-bibliography.ensures.bibliography c.in-Ok.is
    (record { text = c.in_ok-text.ensures; done = refl })
