use Rattle.std.proofs.Common.{sym, ◌∙◌}
use Rattle.bib_contents.proofs.ProgressFacts.{passes_then}
use Rattle.bib_contents.proofs.plain.eat_escaped.Goals as goal

pub returns : goal.returns
returns c = (
  rw (← c.copy-ahead.ensures) (passes_then c.if-not-eat_if.ensures c.in-Some.ensures),
  sym c.is_escaped.ensures ∙ c.if-not-is_escaped.false,
)
