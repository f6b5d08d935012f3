use Rattle.std.proofs.Common.{sym, ◌∙◌, arith}
use Rattle.edit_versions.proofs.AlikeFacts.{different_counts, fields_differ, fields_end, fields_same}
use Rattle.edit_versions.proofs.alike.are_alike_fields.Goals as goal

pub returns-then-one-other : goal.returns-then-one-other
returns-then-one-other c = sym (different_counts c.args.one.now c.args.other.now (λ same. omega (arith, same, c.if-one-other.true)))

pub returns-then-not-branch : goal.returns-then-not-branch
returns-then-not-branch c =
    sym
    (fields_differ c.args.one.now c.args.other.now c.fields.index c.index-one-index.result c.index-other-index.result (omega arith)
    (omega (arith, c.if-one-other.false)) c.index-one-index.is c.index-other-index.is
    c.fields.invariant (sym c.in_ok-is_alike_field.ensures ∙ c.if-not-branch.true))

pub fields-preserved : goal.fields-preserved
fields-preserved c =
    fields_same c.args.one.now c.args.other.now c.fields.index c.index-one-index.result c.index-other-index.result (omega arith)
    (omega (arith, c.if-one-other.false)) c.index-one-index.is c.index-other-index.is
    c.fields.invariant (sym c.in_ok-is_alike_field.ensures ∙ c.if-not-branch.false)

pub returns : goal.returns
returns c =
    sym
    (fields_end c.args.one.now c.args.other.now c.fields.index (omega arith) (omega (arith, c.if-one-other.false)) c.fields.invariant)
