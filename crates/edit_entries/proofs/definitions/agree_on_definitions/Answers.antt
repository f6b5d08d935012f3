use Rattle.std.proofs.Common.{map}
use Rattle.std.proofs.lemmas.Result.{IfOk-weaker}
use Rattle.bib_syntax.specs.Views.{field_of}
use Rattle.edit_entries.proofs.DefinitionFacts.{agree_if_both, all_agree}
use Rattle.edit_entries.proofs.KeyFacts.{on_no, on_yes}
use Rattle.edit_entries.proofs.definitions.agree_on_definitions.Goals as goal

pub returns-then-not-branch : goal.returns-then-not-branch
returns-then-not-branch c = λ agree.
    on_no _ _ c.in_ok-agree_with_last.field-0 c.if-not-branch.true c.in_ok-agree_with_last.ensures
    (all_agree (map field_of c.args.definitions.now) (map field_of c.args.others.now) agree)

pub returns : goal.returns
returns c =
    IfOk-weaker c.agree_with_last-2.result _ _
    (λ answer is.
    agree_if_both (map field_of c.args.definitions.now) (map field_of c.args.others.now) answer
    (on_yes _ _ c.in_ok-agree_with_last.field-0 c.if-not-branch.false c.in_ok-agree_with_last.ensures) is)
    c.agree_with_last-2.ensures
