use Rattle.bib_dates.proofs.Padding.{four_wide}
use Rattle.bib_dates.proofs.write.four_digits.Goals as goal

pub returns : goal.returns
returns c = let h = rw c.laid_out.ensures at c.format.ensures.ok in rw four_wide at h
