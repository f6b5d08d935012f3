use Rattle.bib_text.proofs.DigitFacts.{after_digits}
use Rattle.bib_ris.proofs.pages.push_range.Goals as goal

pub split_at-requires : goal.split_at-requires
split_at-requires c = after_digits c.args.text.now _ c.utf8.text c.digits.ensures
