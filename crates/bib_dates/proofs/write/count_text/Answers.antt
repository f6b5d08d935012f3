use Rattle.bib_dates.proofs.Padding.{two_wide}
use Rattle.bib_dates.proofs.write.count_text.Goals as goal

pub returns : goal.returns
returns c = let h = rw (c.laid_out.ensures, c.from.ensures) at c.format.ensures.ok in rw two_wide at h
