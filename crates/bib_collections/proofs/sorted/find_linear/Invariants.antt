use Rattle.std.proofs.Common.{◌≡◌, drop}
use Rattle.std.specs.FinMap as map
use Rattle.bib_collections.specs.Sorted.{by_bytes}
use Rattle.bib_collections.proofs.sorted.find_linear.Given as goal

abbrev pub invariant-pairs : goal.invariant-pairs
invariant-pairs g l = map.find by_bytes l.name l.pairs ≡ map.find by_bytes l.name (drop l.pair-index l.pairs)
