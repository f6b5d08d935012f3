use Rattle.std.proofs.Common.{◌≡◌, ℕ, List, ◌∷◌, [], ◌∙◌, ap, false, Option, None, Some, rules}
use Rattle.std.specs.Prelude.{IfNone}
use Rattle.bib_contents.specs.ContentErrors.{UnitFails}
use Rattle.bib_contents.specs.Contents.{is_space}
use Rattle.bib_contents.specs.Progress.{left, Passes}
use Rattle.bib_contents.proofs.ContentFacts.{no_unit_at_end}
use Rattle.bib_contents.proofs.CommandUnitFacts.{last_dollar, eaten_first}
use Rattle.bib_contents.proofs.units.eat_unit.Goals as goal

pub returns-in_default : goal.returns-in_default
returns-in_default c = record {
  same = search rules;
  found = λ u rest one. no_unit_at_end (rw c.in_default.ensures at one);
  fails = search rules;
  inside = search rules;
}

pub eat_while-requires-clause-is_test : goal.eat_while-requires-clause-is_test
eat_while-requires-clause-is_test c = (is_space, λ x r post. post)

-- a failure without a condition is a failure for non-empty texts
fails_given : {A : Type 0} (text : List ℕ) (found : Option A) → IfNone found (UnitFails false text)
    → IfNone found ((text ≡ [] → ⊥) → UnitFails false text)
fails_given text None fails = λ _. fails
fails_given text (Some a) fact = fact

pub returns : goal.returns
returns c =
    let dollar =
    last_dollar c.args.is_verbatim c.in-Some.c c.if-is_ordinary.ensures c.if-is_space.ensures c.if-c-eq45.false
    c.if-c-eq92.false c.if-c-eq123.false c.if-c-eq125.false in
    let passed : Passes c.args.s.now (c.in-Some.c ∷ []) c.eat-2.new.self = eaten_first c.eat-2.result c.eat-2.ensures c.in-Some.ensures.1 in
    let here : left c.args.s.now ≡ 36 ∷ left c.eat-2.new.self = passed.left ∙ ap (λ d. d ∷ left c.eat-2.new.self) dollar.1 in
    record {
      same = search rules;
      found = rw (dollar.0, here) c.formula.ensures.found;
      fails = rw (dollar.0, here) (fails_given (36 ∷ left c.eat-2.new.self) c.formula.result c.formula.ensures.fails);
      inside = search rules;
    }
