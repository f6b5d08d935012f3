use Rattle.std.proofs.Common.{refl}
use Rattle.biblatex_c.specs.Calls.IsEnd.{too_short}
use Rattle.biblatex_c.proofs.EndFacts.{written_answer}
use Rattle.biblatex_c.proofs.buffers.write.Goals as goal

pub returns-then-out-answer : goal.returns-then-out-answer
returns-then-out-answer c = too_short refl c.if-out-answer.true

pub returns : goal.returns
returns c = written_answer c.copy_from_slice.ensures.after c.if-out-answer.false
