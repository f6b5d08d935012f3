use Rattle.std.proofs.Common.{rules}
use Rattle.bib_text.proofs.scanner.Scanner.eat_white.Goals as goal

pub returns-clause-longest : goal.returns-clause-longest
returns-clause-longest c = c.eat_while.ensures.longest _ (λ x r post. search rules)
