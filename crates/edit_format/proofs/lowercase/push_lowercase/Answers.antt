use Rattle.std.proofs.Common.{sym, ◌∙◌, rules}
use Rattle.edit_format.proofs.LowerFacts.{lower_same}
use Rattle.edit_format.proofs.lowercase.push_lowercase.Goals as goal

pub returns-then-not-has_capital : goal.returns-then-not-has_capital
returns-then-not-has_capital c =
    rw (lower_same c.args.text.now (sym c.has_capital.ensures ∙ c.if-not-has_capital.true)) (search rules)
