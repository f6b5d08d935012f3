use Rattle.bib_text.proofs.DigitFacts.{run_digits, after_digits}
use Rattle.edit_orders.proofs.years.first_digits.Goals as goal

pub split_at-requires : goal.split_at-requires
split_at-requires c = after_digits c.args.text.now _ c.utf8.text c.digits_len.ensures

pub returns-clause-digits : goal.returns-clause-digits
returns-clause-digits c = rw (c.split_at.ensures.front, c.digits_len.ensures) (run_digits c.args.text.now)
