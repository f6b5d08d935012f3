use Rattle.std.proofs.Common.{sym, ◌∙◌}
use Rattle.std.proofs.lemmas.Bool.{false≢true}
use Rattle.bib.specs.Output.{ShowsSettled}
use Rattle.bib.proofs.Answers.{no_bibliography_shown, bibliography_shown}
use Rattle.bib.proofs.run.settled_answer.Goals as goal

pub returns-in-Err : goal.returns-in-Err
returns-in-Err c =
    no_bibliography_shown {shows = ShowsSettled} c.in_ok-bibliography.field-0 c.in-Err.answer
    c.in_ok-bibliography.ensures.text c.in_ok-bibliography.ensures.bibliography c.in-Err.is

pub returns-then-is_settled : goal.returns-then-is_settled
returns-then-is_settled c =
    rw c.in_ok-from_str.ensures.ok
    (bibliography_shown {shows = ShowsSettled} c.in_ok-bibliography.field-0 c.in-Ok.bibliography
    c.in_ok-bibliography.ensures.text c.in_ok-bibliography.ensures.bibliography c.in-Ok.is
    (ShowsSettled.settled (c.is_settled-is_settled.ensures.0 c.if-is_settled.true)))

pub returns : goal.returns
returns c =
    rw c.in_ok-from_str-2.ensures.ok
    (bibliography_shown {shows = ShowsSettled} c.in_ok-bibliography.field-0 c.in-Ok.bibliography
    c.in_ok-bibliography.ensures.text c.in_ok-bibliography.ensures.bibliography c.in-Ok.is
    (ShowsSettled.unsettled
    (λ settled. false≢true (sym c.if-is_settled.false ∙ c.is_settled-is_settled.ensures.1 settled))))
