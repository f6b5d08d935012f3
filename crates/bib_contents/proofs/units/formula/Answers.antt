use Rattle.std.proofs.Common.{ap, ◌∙◌, ◌++◌, not, rules, ◌≡◌, []}
use Rattle.std.specs.Prelude.{◌==◌}
use Rattle.std.specs.Str.{chars}
use Rattle.std.proofs.lemmas.List.{append-nil}
use Rattle.bib_contents.specs.ContentErrors.{UnitFails}
use Rattle.bib_contents.specs.Progress.{left}
use Rattle.bib_contents.proofs.ArgumentFacts.{all_none, no_formula, formula_found, nothing_left}
use Rattle.bib_contents.proofs.units.formula.Goals as goal

pub eat_while-text-requires-clause-is_test : goal.eat_while-text-requires-clause-is_test
eat_while-text-requires-clause-is_test c = (λ d. not (d == 36), λ x r post. search rules)

pub returns-then-not-eat_if-clause-found : goal.returns-then-not-eat_if-clause-found
returns-then-not-eat_if-clause-found c u rest one =
    let run = c.eat_while-text.ensures.longest (λ d. not (d == 36)) (λ x r post. search rules) in
    let ended : left c.eat_while-text.new.self ≡ [] = nothing_left (λ d. d == 36) _ run.1 c.if-not-eat_if.ensures.1 in
    let whole : left c.args.s.now ≡ chars c.eat_while-text.result.now =
    c.eat_while-text.ensures.passed.left ∙ ap (λ xs. chars c.eat_while-text.result.now ++ xs) ended ∙ append-nil _ in
    no_formula (chars c.eat_while-text.result.now) run.0 u rest (rw whole at one)

pub returns-then-not-eat_if-clause-fails : goal.returns-then-not-eat_if-clause-fails
returns-then-not-eat_if-clause-fails c =
    let run = c.eat_while-text.ensures.longest (λ d. not (d == 36)) (λ x r post. search rules) in
    let ended : left c.eat_while-text.new.self ≡ [] = nothing_left (λ d. d == 36) _ run.1 c.if-not-eat_if.ensures.1 in
    let text = chars c.eat_while-text.result.now in
    let whole : left c.args.s.now ≡ text = c.eat_while-text.ensures.passed.left ∙ ap (λ xs. text ++ xs) ended ∙ append-nil _ in
    rw whole (UnitFails.dollar (all_none text run.0))

pub returns-clause-found : goal.returns-clause-found
returns-clause-found c =
    let run = c.eat_while-text.ensures.longest (λ d. not (d == 36)) (λ x r post. search rules) in
    formula_found (left c.args.s.now) (chars c.eat_while-text.result.now) (left c.eat_if.new.self) run.0
    (c.eat_while-text.ensures.passed.left ∙ ap (λ xs. chars c.eat_while-text.result.now ++ xs) c.if-not-eat_if.ensures.left)
