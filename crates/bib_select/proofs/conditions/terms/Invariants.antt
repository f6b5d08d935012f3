use Rattle.std.specs.Prelude.{codes}
use Rattle.bib_select.specs.Conditions.{term_reading}
use Rattle.bib_select.specs.Segments.{segments_of}
use Rattle.bib_select.specs.Views.{terms_reading_of, segment_of, segments_left}
use Rattle.bib_select.proofs.SegmentFacts.{ReadSoFar, tokens_left}
use Rattle.bib_select.proofs.conditions.terms.Given as goal

abbrev pub invariant-segments : goal.invariant-segments
invariant-segments l =
    ReadSoFar term_reading (segments_of (codes "and") (segment_of l.segment)) (terms_reading_of l.terms)
    (segments_left (codes "and") l.left)

abbrev pub decreases-segments : goal.decreases-segments
decreases-segments l = tokens_left l.left
