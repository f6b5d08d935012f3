use Rattle.std.proofs.Common.{map, arith}
use Rattle.std.proofs.lemmas.List.{length-map}
use Rattle.bib_syntax.specs.Views.{field_of}
use Rattle.edit_entries.specs.Definitions.{AgreesWithLast}
use Rattle.edit_entries.proofs.KeyFacts.{on_no, on_yes}
use Rattle.edit_entries.proofs.PositionFacts.{slice_get-map}
use Rattle.edit_entries.proofs.TakenFacts.{each_more, within_of}
use Rattle.edit_entries.proofs.definitions.agree_with_last.Goals as goal

pub returns-then-not-branch : goal.returns-then-not-branch
returns-then-not-branch c = λ all.
    on_no _ _ c.in_ok-agrees.field-0 c.if-not-branch.true c.in_ok-agrees.ensures
    (all c.definitions.definition-index (field_of c.definition-item.result)
    (slice_get-map field_of c.args.definitions.now c.definitions.definition-index c.definition-item.result
    c.definitions-test.true c.definition-item.is))

pub definitions-preserved : goal.definitions-preserved
definitions-preserved c =
    each_more (λ j f. AgreesWithLast (map field_of c.args.others.now) f) field_of c.args.definitions.now
    c.definitions.definition-index c.definition-item.result c.definitions-test.true c.definition-item.is
    c.definitions.invariant (on_yes _ _ c.in_ok-agrees.field-0 c.if-not-branch.false c.in_ok-agrees.ensures)

pub returns : goal.returns
returns c = λ j f here.
    c.definitions.invariant j f
    (omega (
      arith,
      within_of (map field_of c.args.definitions.now) j f here,
      length-map c.args.definitions.now field_of,
    )) here
