use Rattle.std.proofs.Common.{rules}
use Rattle.bib_text.proofs.PlaceFacts.{all_map, end_map}
use Rattle.bib_text.proofs.scanner.Scanner.eat_until.Goals as goal

pub returns-clause-longest : goal.returns-clause-longest
returns-clause-longest g c p answers = c.eat_while.ensures.longest _ (λ x r post. search (rules, answers))

pub returns-clause-passed : goal.returns-clause-passed
returns-clause-passed g c = all_map (λ x post. search (rules, post)) c.eat_while.ensures.passed

pub returns-clause-stopped : goal.returns-clause-stopped
returns-clause-stopped g c = end_map (λ x post. search (rules, post)) c.eat_while.ensures.stopped
