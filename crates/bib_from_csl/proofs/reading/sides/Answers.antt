use Rattle.std.proofs.Common.{lit<}
use Rattle.bib_dates.proofs.Cuts.{holds_where_cut}
use Rattle.bib_from_csl.proofs.reading.sides.Goals as goal

pub returns-clause-some : goal.returns-clause-some
returns-clause-some c = holds_where_cut 45 c.args.text.now c.split_once.result c.split_once.ensures.cases (lit< tt)
