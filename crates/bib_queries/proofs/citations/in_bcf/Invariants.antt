use Rattle.std.proofs.Common.{◌≡◌, map}
use Rattle.bib_queries.specs.Citations.{bcf_cited, cites_from}
use Rattle.bib_queries.specs.Elements.{set_names}
use Rattle.bib_queries.specs.Collecting.{IsCollected}
use Rattle.bib_queries.proofs.CitationFacts.{past}
use Rattle.bib_queries.proofs.citations.in_bcf.Given as goal

abbrev pub invariant-elements : goal.invariant-elements
invariant-elements l = record {
  place : l.at ≡ past (map (λ line. line.now) l.yielded);
  collected : IsCollected l.initial.collected (cites_from (bcf_cited (set_names l.text)) 0 (map (λ line. line.now) l.yielded)) l.collected;
}
