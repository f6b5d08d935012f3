use Rattle.bib.specs.Output.{IsKeysAnswer as answer}
use Rattle.bib.proofs.Answers.{error_answered}
use Rattle.bib.proofs.run.keys.Goals as goal

pub returns-in-Err : goal.returns-in-Err
returns-in-Err c =
    error_answered c.in-Err.error c.error_answer.result c.error_answer.ensures c.utf8.text c.in-Err.ensures.refused
    c.in-Err.ensures.reported

pub returns : goal.returns
returns c = rw c.in_ok-text.ensures (answer.keys c.utf8.text c.in-Ok.ensures.read)
