use Rattle.bib.proofs.Answers.{no_bibliography}
use Rattle.bib.proofs.run.parse_bibliography.Goals as goal

pub returns-in_ok-error_answer-in-Err : goal.returns-in_ok-error_answer-in-Err
returns-in_ok-error_answer-in-Err c =
    let listed = c.in_ok-error_answer-in-Err.ensures in
    (no_bibliography c.in-Err.ensures.refused listed.0 listed.1, listed.2)
