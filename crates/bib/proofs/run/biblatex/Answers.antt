use Rattle.std.proofs.Common.{refl}
use Rattle.bib.specs.Output.{ShowsBiblatex}
use Rattle.bib.proofs.Answers.{no_bibliography_shown, bibliography_shown}
use Rattle.bib.proofs.run.biblatex.Goals as goal

pub returns-in-Err : goal.returns-in-Err
returns-in-Err c =
    no_bibliography_shown {shows = ShowsBiblatex} c.in_ok-bibliography.field-0 c.in-Err.answer
    c.in_ok-bibliography.ensures.text c.in_ok-bibliography.ensures.bibliography c.in-Err.is

pub returns : goal.returns
returns c =
    bibliography_shown {shows = ShowsBiblatex} c.in_ok-bibliography.field-0 c.in-Ok.bibliography
    c.in_ok-bibliography.ensures.text c.in_ok-bibliography.ensures.bibliography c.in-Ok.is
    (record { text = c.in_ok-text.ensures.text; done = refl })
