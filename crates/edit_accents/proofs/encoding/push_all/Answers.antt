use Rattle.std.proofs.Common.{arith}
use Rattle.std.proofs.lemmas.Grind.{common_steps}
use Rattle.std.proofs.lemmas.Str.{encodes-append}
use Rattle.edit_accents.proofs.encoding.push_all.Goals as goal

pub characters-preserved : goal.characters-preserved
characters-preserved c = grind (arith, common_steps, encodes-append)
