use Rattle.std.proofs.Common.{ℕ, Ok, Err}
use Rattle.bib_values.proofs.RangeFacts.{number_parsed}
use Rattle.bib_values.proofs.ranges.leading_number.Goals as goal

pub returns-in_default : goal.returns-in_default
returns-in_default c =
    number_parsed _ _ _ (Err c.in_default.field-0) c.digits.ensures.digits c.digits.ensures.rest
    c.in_default.ensures.value.0

pub returns : goal.returns
returns c = number_parsed {E = ℕ} _ _ _ (Ok c.in-Ok.value) c.digits.ensures.digits c.digits.ensures.rest c.in-Ok.ensures.value.0
