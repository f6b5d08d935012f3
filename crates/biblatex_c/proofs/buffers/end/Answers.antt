use Rattle.std.proofs.Common.{refl, ◌∙◌}
use Rattle.biblatex_c.specs.Calls.IsEnd.{failed}
use Rattle.biblatex_c.proofs.EndFacts.{end_else}
use Rattle.biblatex_c.proofs.buffers.end.Goals as goal

pub returns-in-Ok : goal.returns-in-Ok
returns-in-Ok c = end_else (λ bytes is. rw c.in-Ok.is (is ∙ c.as_bytes.ensures.value)) (λ why none. absurd none) c.write.ensures

pub returns-in-Err : goal.returns-in-Err
returns-in-Err c = failed (rw c.in-Err.is refl)
