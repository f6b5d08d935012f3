use Rattle.std.proofs.lemmas.Grind.{common_steps}
use Rattle.std.proofs.Common.{◌∙◌, length, rules, subst, sym, arith}
use Rattle.bib_keys.specs.Patterns.{IsPatternError}
use Rattle.bib_keys.proofs.PatternFacts.{IsReadTo, not_empty, read_more, read_no_more, read_none}
use Rattle.bib_keys.proofs.parsing.parts.Goals as goal

pub parts-init : goal.parts-init
parts-init c = (c.utf8.text, subst (λ l. IsReadTo c.args.text.now l c.args.text.now) (sym c.new-parts.ensures) (read_none c.args.text.now))

pub returns-in_default-clause-refused : goal.returns-in_default-clause-refused
returns-in_default-clause-refused c =
    subst (IsPatternError c.args.text.now) (sym c.stop_error.ensures)
    (read_no_more c.args.text.now c.parts.parts c.parts.rest.now c.parts.invariant.1
    (not_empty (length c.parts.rest.now) (sym c.is_empty.ensures ∙ c.parts-test.true)) c.in_default.ensures)

pub parts-preserved : goal.parts-preserved
parts-preserved c =
    let (here, is_part, split) = c.in-Some.ensures in (
      search rules,
      subst (λ l. IsReadTo c.args.text.now l c.in-Some.after.now) (sym c.in_ok-push.ensures.items)
          (read_more c.args.text.now c.parts.parts c.in-Some.part here c.parts.rest.now c.in-Some.after.now c.parts.invariant.1 is_part
          split
          (not_empty (length c.parts.rest.now) (sym c.is_empty.ensures ∙ c.parts-test.true))),
    )

pub returns-clause-found : goal.returns-clause-found
returns-clause-found c = grind (arith, common_steps)

pub parts-smaller : goal.parts-smaller
parts-smaller c = grind (arith, common_steps)

pub overflow_sub-text : goal.overflow_sub-text
overflow_sub-text c = grind (arith, common_steps)
