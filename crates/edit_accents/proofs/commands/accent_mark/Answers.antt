use Rattle.std.proofs.Common.{sym, arith}
use Rattle.edit_accents.proofs.NameFacts.{no_accent}
use Rattle.edit_accents.proofs.commands.accent_mark.Goals as goal

pub returns-in_default : goal.returns-in_default
returns-in_default c = sym (no_accent c.args.name.now (λ one. omega (arith, one, c.in_default.len_below)))

pub returns-in_default-2 : goal.returns-in_default-2
returns-in_default-2 c = sym (no_accent c.args.name.now (λ one. omega (arith, one, c.in_default.len_at_least)))
