use Rattle.std.proofs.Common.{sym, arith}
use Rattle.edit_accents.proofs.NameFacts.{no_letter}
use Rattle.edit_accents.proofs.commands.named_letter.Goals as goal

pub returns-in_default-3 : goal.returns-in_default-3
returns-in_default-3 c = sym (no_letter c.args.name.now (omega (arith, c.in_default.len_at_least)))
