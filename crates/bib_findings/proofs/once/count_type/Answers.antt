use Rattle.std.proofs.Common.{ap, not, sym, ◌∙◌, true, false}
use Rattle.std.specs.Prelude.{is_some}
use Rattle.bib_findings.proofs.NameFacts.{copied_is}
use Rattle.bib_findings.proofs.OnceFacts.{known_type_once, type_counted, type_left, unknown_type_once}
use Rattle.bib_findings.proofs.once.count_type.Goals as goal

pub returns-then-is_known_type-clause-counted : goal.returns-then-is_known_type-clause-counted
returns-then-is_known_type-clause-counted c =
    type_left c.args.said.now c.args.counted.now.items
    (known_type_once c.args.said.now.v.kind.v.now (sym c.is_known_type.ensures ∙ c.if-is_known_type.true))

pub returns-then-is_some-clause-counted : goal.returns-then-is_some-clause-counted
returns-then-is_some-clause-counted c =
    let name = c.args.said.now.v.kind.v.now in
    let meant = c.in_ok-meant.meant in
    type_left c.args.said.now c.args.counted.now.items
    (unknown_type_once name _ (sym c.is_known_type.ensures ∙ c.if-is_known_type.false)
    (ap is_some (sym c.in_ok-meant.ensures))
    ∙ ap not (copied_is meant true (sym c.is_some.ensures ∙ c.if-is_some.true)))

pub returns-clause-counted : goal.returns-clause-counted
returns-clause-counted c =
    let name = c.args.said.now.v.kind.v.now in
    let meant = c.in_ok-meant.meant in
    type_counted c.args.said.now c.args.counted.now.items c.count_part.new.counted.items
    (unknown_type_once name _ (sym c.is_known_type.ensures ∙ c.if-is_known_type.false)
    (ap is_some (sym c.in_ok-meant.ensures))
    ∙ ap not (copied_is meant false (sym c.is_some.ensures ∙ c.if-is_some.false)))
    c.in_ok-count_part.ensures.counted
