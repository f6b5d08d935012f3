use Rattle.std.proofs.Common.{sym}
use Rattle.bib_text.proofs.PlaceFacts.{test_clash}
use Rattle.bib_text.proofs.UntilFacts.{nowhere_more}
use Rattle.bib_text.proofs.scanner.near.Goals as goal

pub near-preserved : goal.near-preserved
near-preserved c = nowhere_more _ _ c.near.invariant (λ holds. test_clash _ holds (sym c.if-is_one_of.ensures))
