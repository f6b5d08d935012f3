use Rattle.std.proofs.Common.{◌∙◌, arith, sym}
use Rattle.edit_entry_merge.proofs.LineFacts.{differ_from, not_false, not_true, same_up_to}
use Rattle.edit_entry_merge.proofs.conflict_text.shared_start.Goals as goal

pub returns-then-ne-clause-longest : goal.returns-then-ne-clause-longest
returns-then-ne-clause-longest c =
    let i = c.lines.index in
    differ_from c.args.one.now c.args.other.now i i _ _ (omega (arith, c.lines-test.true, c.min-most.ensures))
    (omega (arith, c.lines-test.true, c.min-most.ensures)) (not_true (sym c.ne.ensures ∙ c.if-ne.true))

pub lines-preserved : goal.lines-preserved
lines-preserved c =
    let i = c.lines.index in
    same_up_to c.args.one.now c.args.other.now i i _ _ (omega (arith, c.lines-test.true, c.min-most.ensures))
    (omega (arith, c.lines-test.true, c.min-most.ensures)) (not_false (sym c.ne.ensures ∙ c.if-ne.false)) c.lines.invariant
