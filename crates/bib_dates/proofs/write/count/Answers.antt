use Rattle.bib_dates.proofs.Padding.{two_wide}
use Rattle.bib_dates.proofs.write.count.Goals as goal

pub returns : goal.returns
returns g c = let h = rw (c.laid_out.ensures, c.from.ensures) at c.write.ensures.writes in rw two_wide at h
