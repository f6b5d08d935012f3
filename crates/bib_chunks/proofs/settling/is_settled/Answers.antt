use Rattle.std.proofs.Common.{arith}
use Rattle.std.proofs.lemmas.Grind.{common_steps}
use Rattle.bib_chunks.specs.Styled.{styled}
use Rattle.bib_chunks.proofs.SettledFacts.{settled_whole}
use Rattle.bib_chunks.proofs.settling.is_settled.Goals as goal

pub chunks-init : goal.chunks-init
chunks-init c = settled_whole c.args.is_verbatim (styled c.args.chunks.now)

pub returns : goal.returns
returns c = grind (arith, common_steps)

pub returns-in_default : goal.returns-in_default
returns-in_default c = grind (arith, common_steps)

pub chunks-preserved : goal.chunks-preserved
chunks-preserved c = grind (arith, common_steps)
