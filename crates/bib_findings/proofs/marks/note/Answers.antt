use Rattle.std.proofs.Common.{◌≡◌, ◌++◌, ◌∙◌, ap, sym, subst, true, false}
use Rattle.std.specs.Prelude.{is_some}
use Rattle.std.specs.BTreeMap.{get}
use Rattle.std.specs.Option.{option_to_list}
use Rattle.std.specs.Ordering.{nat_cmp}
use Rattle.bib_findings.specs.Marks.{AreMetMarks}
use Rattle.bib_findings.proofs.NotedFacts.{noted_again, noted_once}
use Rattle.bib_findings.proofs.marks.note.Goals as goal

pub returns-in_ok-insert-2 : goal.returns-in_ok-insert-2
returns-in_ok-insert-2 c = λ all noted.
    let there : is_some (get nat_cmp c.args.met.now c.in-Some.mark) ≡ true =
    ap is_some (sym c.in_ok-insert.ensures.old) ∙ sym c.is_some.ensures ∙ c.if-is_some.true in
    subst (λ o. AreMetMarks c.insert-then-is_some.new.self (all ++ option_to_list o)) (sym c.in-Some.is)
    (noted_again c.args.met.now c.insert.new.self c.insert-then-is_some.new.self all c.in-Some.mark noted there
    c.in_ok-insert.ensures.updates c.in_ok-insert-2.ensures.updates)

pub returns-else-is_some : goal.returns-else-is_some
returns-else-is_some c = λ all noted.
    let absent : is_some (get nat_cmp c.args.met.now c.in-Some.mark) ≡ false =
    ap is_some (sym c.in_ok-insert.ensures.old) ∙ sym c.is_some.ensures ∙ c.if-is_some.false in
    subst (λ o. AreMetMarks c.insert.new.self (all ++ option_to_list o)) (sym c.in-Some.is)
    (noted_once c.args.met.now c.insert.new.self all c.in-Some.mark noted absent c.in_ok-insert.ensures.updates)
