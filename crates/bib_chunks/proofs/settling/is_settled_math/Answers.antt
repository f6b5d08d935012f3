use Rattle.std.proofs.Common.{sym, ◌∙◌}
use Rattle.bib_chunks.proofs.SettledFacts.{math_by_parts}
use Rattle.bib_chunks.proofs.settling.is_settled_math.Goals as goal

pub returns : goal.returns
returns c = math_by_parts c.args.text.now _ (sym c.holds_dollar.ensures ∙ c.if-holds_dollar.false) c.has_balanced_braces.ensures.parts
