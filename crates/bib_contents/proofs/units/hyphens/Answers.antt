use Rattle.std.proofs.Common.{ap, ◌∙◌, ◌++◌, rules}
use Rattle.std.specs.Prelude.{◌==◌}
use Rattle.std.specs.Str.{chars}
use Rattle.bib_contents.specs.Progress.{left}
use Rattle.bib_contents.proofs.ArgumentFacts.{hyphens_bytes}
use Rattle.bib_contents.proofs.units.hyphens.Goals as goal

pub eat_while-requires-clause-is_test : goal.eat_while-requires-clause-is_test
eat_while-requires-clause-is_test c = (λ d. d == 45, λ x r post. search rules)

pub returns-clause-passed : goal.returns-clause-passed
returns-clause-passed c = (chars c.eat_while.result.now, c.eat_while.ensures.passed)

pub returns-clause-spelt : goal.returns-clause-spelt
returns-clause-spelt c =
    let run = c.eat_while.ensures.longest (λ d. d == 45) (λ x r post. search rules) in
    c.eat_while.ensures.passed.left
    ∙ ap (λ cs. cs ++ left c.eat_while.new.self) (hyphens_bytes c.eat_while.result.now c.eat_while.utf8 run.0)

pub returns-clause-whole : goal.returns-clause-whole
returns-clause-whole c = (c.eat_while.ensures.longest (λ d. d == 45) (λ x r post. search rules)).1
