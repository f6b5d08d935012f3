use Rattle.std.proofs.Common.{◌∙◌}
use Rattle.biblatex_c.proofs.EndFacts.{end_else}
use Rattle.biblatex_c.proofs.status.biblatex_message.Goals as goal

pub returns : goal.returns
returns c = record {
  status = c.write.result;
  is = c.number.ensures;
  ends = end_else (λ bytes is. is ∙ c.as_bytes.ensures.value ∙ c.text_of.ensures) (λ why none. none) c.write.ensures;
}
