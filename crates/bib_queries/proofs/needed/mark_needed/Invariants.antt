use Rattle.std.proofs.Common.{◌+◌, length, map}
use Rattle.bib_queries.specs.Searching.{unmarked_count}
use Rattle.bib_queries.specs.Texts.{node_of}
use Rattle.bib_queries.proofs.SearchFacts.{IsSearch}
use Rattle.bib_queries.proofs.needed.mark_needed.Given as goal

abbrev pub decreases-search : goal.decreases-search
decreases-search l = unmarked_count l.marks.items + length l.pending.items

abbrev pub invariant-search : goal.invariant-search
invariant-search l = IsSearch (map (λ n. n.now) l.names) (map node_of l.links) l.holders l.marks.items l.pending.items
