use Rattle.bib_syntax.proofs.ClosingFacts.{braces_end}
use Rattle.bib_syntax.proofs.raw.closings.Braces.end.Goals as goal

pub opened-preserved : goal.opened-preserved
opened-preserved c text here end braces =
    let before = c.opened.invariant text here end braces in
    let more =
    braces_end here text _ _ _ _ before.1.0 c.in-Some.start end before.0 before.1.1 c.in-Some.ensures.items
    c.in_ok-push.ensures.items in
    (more.0, (_, more.1))
