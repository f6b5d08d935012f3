use Rattle.std.proofs.Common.{arith}
use Rattle.std.proofs.lemmas.Grind.{common_steps}
use Rattle.bib_keys.proofs.cases.push_words.Goals as goal

pub returns : goal.returns
returns c = grind (arith, common_steps)

pub words-preserved : goal.words-preserved
words-preserved c = grind (arith, common_steps)
