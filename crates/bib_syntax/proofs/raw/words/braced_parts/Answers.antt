use Rattle.std.proofs.lemmas.Grind.{common_steps}
use Rattle.std.proofs.Common.{arith, ap, subst}
use Rattle.bib_syntax.specs.Closings.{ClosesAt, IsCloseOf}
use Rattle.bib_text.specs.Places.{place}
use Rattle.bib_text.proofs.BraceFacts.{ahead_parts}
use Rattle.bib_syntax.proofs.raw.words.braced_parts.Goals as goal

pub from-requires-clause-following : goal.from-requires-clause-following
from-requires-clause-following c =
    let closes : ClosesAt c.args.s.now (place c.args.s.now.text c.in-Some-close.at) =
    subst (IsCloseOf c.args.s.now) c.in-Some-close.is c.in-Some.ensures in
    let ahead = (ahead_parts closes.0).at in
    omega (arith, ahead, c.cursor-start.ensures.place, ap (λ p. p.at) c.jump.ensures)

pub jump-requires : goal.jump-requires
jump-requires c = grind (arith, common_steps)
