use Rattle.std.proofs.Common.{length, ◌-◌}
use Rattle.bib_text.proofs.PlaceFacts.{Ahead}
use Rattle.bib_syntax.proofs.FailingFacts.{FailBefore}
use Rattle.bib_syntax.proofs.raw.failing.add_starts.Given as goal

abbrev pub invariant-fields : goal.invariant-fields
invariant-fields l = Ahead l.fn.s l.s × FailBefore l.fn.s.text l.fn.starts.items l.starts.items l.s

abbrev pub decreases-fields : goal.decreases-fields
decreases-fields l = length l.s.text - l.s.at
