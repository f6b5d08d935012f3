use Rattle.std.proofs.Common.{◌∙◌, sym, ap, Some, arith}
use Rattle.std.specs.Str.{chars}
use Rattle.bib_values.specs.Ranges.{leading_number}
use Rattle.bib_values.proofs.RangeFacts.{ended, unended}
use Rattle.bib_values.proofs.ranges.up_to.Goals as goal

pub returns-then-rest-gt0 : goal.returns-then-rest-gt0
returns-then-rest-gt0 c =
    unended _ _ c.as_bytes-rest.result.now _
    (ap leading_number (sym c.after_white.ensures) ∙ c.in-Some.ensures
    ∙ ap (λ bs. Some (c.in-Some.found.0, chars bs)) (sym c.as_bytes-rest.ensures.value))
    c.as_bytes-rest.ensures.utf8 c.if-rest-gt0.true

pub returns : goal.returns
returns c =
    ended _ _ c.as_bytes-rest.result.now _
    (ap leading_number (sym c.after_white.ensures) ∙ c.in-Some.ensures
    ∙ ap (λ bs. Some (c.in-Some.found.0, chars bs)) (sym c.as_bytes-rest.ensures.value))
    (omega (arith, c.if-rest-gt0.false))
