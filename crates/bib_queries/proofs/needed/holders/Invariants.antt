use Rattle.std.proofs.Common.{map, take}
use Rattle.bib_queries.specs.Searching.{AreHolders}
use Rattle.bib_queries.specs.Texts.{node_of}
use Rattle.bib_queries.proofs.needed.holders.Given as goal

abbrev pub invariant-links : goal.invariant-links
invariant-links l = AreHolders (map node_of (take l.index l.links)) l.holders
