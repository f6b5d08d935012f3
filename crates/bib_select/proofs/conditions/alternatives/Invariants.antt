use Rattle.std.proofs.Common.{map}
use Rattle.std.specs.Prelude.{codes}
use Rattle.bib_select.specs.Conditions.{terms_reading}
use Rattle.bib_select.specs.Segments.{segments_of}
use Rattle.bib_select.specs.Views.{terms_reading_of, segment_of, segments_left}
use Rattle.bib_select.proofs.SegmentFacts.{ReadSoFar, tokens_left}
use Rattle.bib_select.proofs.conditions.alternatives.Given as goal

abbrev pub invariant-segments : goal.invariant-segments
invariant-segments l =
    ReadSoFar terms_reading (segments_of (codes "or") (segment_of l.segment)) (map terms_reading_of l.alternatives.items)
    (segments_left (codes "or") l.left)

abbrev pub decreases-segments : goal.decreases-segments
decreases-segments l = tokens_left l.left
