use Rattle.bib_select.proofs.SegmentFacts.{UncutSoFar}
use Rattle.bib_select.proofs.segments.Segment.cut.Given as goal

abbrev pub invariant-tokens : goal.invariant-tokens
invariant-tokens l = UncutSoFar l.joint l.self.end l.self.tokens.now l.index
