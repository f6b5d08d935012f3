use Rattle.std.proofs.Common.{◌≡◌, map}
use Rattle.bib_queries.specs.Citations.{cites_from}
use Rattle.bib_queries.specs.Lines.{aux_cited}
use Rattle.bib_queries.specs.Collecting.{IsCollected}
use Rattle.bib_queries.proofs.CitationFacts.{past}
use Rattle.bib_queries.proofs.citations.in_aux.Given as goal

abbrev pub invariant-lines : goal.invariant-lines
invariant-lines l = record {
  place : l.at ≡ past (map (λ line. line.now) l.yielded);
  collected : IsCollected l.initial.collected (cites_from aux_cited 0 (map (λ line. line.now) l.yielded)) l.collected;
}
