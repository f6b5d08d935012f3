use Rattle.std.proofs.Common.{arith}
use Rattle.std.proofs.lemmas.Grind.{common_steps}
use Rattle.bib_entry.proofs.write.write_fields.Goals as goal

pub returns : goal.returns
returns c = grind (arith, common_steps)

pub fields-preserved : goal.fields-preserved
fields-preserved c = grind (arith, common_steps)
