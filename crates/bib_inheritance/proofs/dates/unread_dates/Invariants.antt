use Rattle.bib_inheritance.specs.Turning.{IsEmptyCache}
use Rattle.bib_inheritance.proofs.dates.unread_dates.Given as goal

-- the dates so far are not computed
abbrev pub invariant-indices : goal.invariant-indices
invariant-indices l = IsEmptyCache l._index l.dates.items
