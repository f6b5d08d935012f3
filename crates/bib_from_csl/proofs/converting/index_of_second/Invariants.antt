use Rattle.std.proofs.Common.{◌≡◌}
use Rattle.bib_from_csl.proofs.converting.index_of_second.Given as goal

abbrev pub invariant-items : goal.invariant-items
invariant-items l = l.index ≡ l.item-index
