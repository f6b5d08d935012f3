use Rattle.std.proofs.Common.{◌∙◌}
use Rattle.biblatex_c.proofs.EndFacts.{end_else}
use Rattle.biblatex_c.proofs.version.biblatex_version.Goals as goal

pub returns : goal.returns
returns c = record {
  status = c.write.result;
  is = c.number.ensures;
  ends = end_else (λ bytes is. is ∙ c.as_bytes.ensures.value) (λ why none. none) c.write.ensures;
}
