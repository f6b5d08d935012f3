use Rattle.std.proofs.Common.{length, ◌-◌}
use Rattle.bib_syntax.proofs.KeptFacts.{CommentsSoFar}
use Rattle.bib_syntax.proofs.raw.kept.comments.Given as goal

abbrev pub invariant-comments : goal.invariant-comments
invariant-comments l = CommentsSoFar l.fn.s l.s

abbrev pub decreases-comments : goal.decreases-comments
decreases-comments l = length l.s.text - l.s.at
