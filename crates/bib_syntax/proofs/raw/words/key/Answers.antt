use Rattle.std.proofs.Common.{rules}
use Rattle.bib_syntax.proofs.raw.words.key.Goals as goal

pub returns-clause-longest : goal.returns-clause-longest
returns-clause-longest c = c.eat_while-text.ensures.longest _ (λ x r post. search rules)
