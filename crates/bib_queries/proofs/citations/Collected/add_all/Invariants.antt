use Rattle.std.proofs.Common.{map, take}
use Rattle.bib_queries.specs.Citations.{cites_at}
use Rattle.bib_queries.specs.Collecting.{IsCollected}
use Rattle.bib_queries.proofs.citations.Collected.add_all.Given as goal

abbrev pub invariant-keys : goal.invariant-keys
invariant-keys l = IsCollected l.initial.self (cites_at l.at (map (λ k. k.now) (take l.key-index l.keys))) l.self
