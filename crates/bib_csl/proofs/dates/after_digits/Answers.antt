use Rattle.bib_text.proofs.DigitFacts.{after_digits}
use Rattle.bib_csl.proofs.dates.after_digits.Goals as goal

pub split_at-requires : goal.split_at-requires
split_at-requires c = after_digits c.args.text.now _ c.utf8.text c.digits.ensures
