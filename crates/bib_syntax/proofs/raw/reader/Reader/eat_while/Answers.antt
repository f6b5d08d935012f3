use Rattle.std.proofs.Common.{subst}
use Rattle.bib_text.specs.Places.{Longest}
use Rattle.bib_syntax.proofs.ClosingFacts.{moved_all}
use Rattle.bib_syntax.proofs.raw.reader.Reader.eat_while.Goals as goal

pub returns-clause-longest : goal.returns-clause-longest
returns-clause-longest g c p answers = subst (λ u. Longest p u c.eat_while.new.self) c.self.view_is (c.eat_while.ensures.longest p answers)

pub returns-clause-passed : goal.returns-clause-passed
returns-clause-passed g c = moved_all c.self.view_is c.eat_while.ensures.passed
