use Rattle.std.proofs.Common.{rules, not, ◌==◌}
use Rattle.bib_contents.proofs.ends.Ends.of.Goals as goal

pub eat_while-requires-clause-is_test : goal.eat_while-requires-clause-is_test
eat_while-requires-clause-is_test c = ((λ c. not (c == 123)), λ x r post. search rules)
