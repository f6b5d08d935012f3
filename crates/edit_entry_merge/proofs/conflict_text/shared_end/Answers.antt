use Rattle.std.proofs.Common.{◌≡◌, ◌+◌, ◌-◌, ◌∙◌, ap, arith, drop, length, subst, sym, take, false}
use Rattle.edit_entry_merge.specs.ConflictTexts.{end_alike}
use Rattle.edit_entry_merge.specs.Lines.{lent_lines}
use Rattle.edit_entry_merge.proofs.LineFacts.{differ_up_to, not_false, not_true, same_from}
use Rattle.edit_entry_merge.proofs.conflict_text.shared_end.Goals as goal

pub returns-then-ne-clause-longest : goal.returns-then-ne-clause-longest
returns-then-ne-clause-longest c =
    let xs = c.args.one.now in
    let ys = c.args.other.now in
    let n = c.lines.count in
    let i : length xs - 1 - n + 1 ≡ length xs - n = omega (arith, c.lines-test.true, c.min-most.ensures) in
    let j : length ys - 1 - n + 1 ≡ length ys - n = omega (arith, c.lines-test.true, c.min-most.ensures) in
    subst (λ k. end_alike (take k (lent_lines xs)) (take (length ys - n) (lent_lines ys)) ≡ false) i
    (subst (λ k. end_alike (take (length xs - 1 - n + 1) (lent_lines xs)) (take k (lent_lines ys)) ≡ false) j
    (differ_up_to xs ys (length xs - 1 - n) (length ys - 1 - n) _ _ (omega (arith, c.lines-test.true, c.min-most.ensures))
    (omega (arith, c.lines-test.true, c.min-most.ensures)) (not_true (sym c.ne.ensures ∙ c.if-ne.true))))

pub lines-preserved : goal.lines-preserved
lines-preserved c =
    let xs = c.args.one.now in
    let ys = c.args.other.now in
    let n = c.lines.count in
    let i : length xs - n ≡ length xs - 1 - n + 1 = omega (arith, c.lines-test.true, c.min-most.ensures) in
    let j : length ys - n ≡ length ys - 1 - n + 1 = omega (arith, c.lines-test.true, c.min-most.ensures) in
    let i' : length xs - 1 - n ≡ length xs - (n + 1) = omega arith in
    let j' : length ys - 1 - n ≡ length ys - (n + 1) = omega arith in
    let after : drop (length xs - 1 - n + 1) (lent_lines xs) ≡ drop (length ys - 1 - n + 1) (lent_lines ys) =
    ap (λ k. drop k (lent_lines xs)) (sym i) ∙ c.lines.invariant ∙ ap (λ k. drop k (lent_lines ys)) j in
    ap (λ k. drop k (lent_lines xs)) (sym i')
    ∙ same_from xs ys (length xs - 1 - n) (length ys - 1 - n) _ _ (omega (arith, c.lines-test.true, c.min-most.ensures))
    (omega (arith, c.lines-test.true, c.min-most.ensures)) (not_false (sym c.ne.ensures ∙ c.if-ne.false)) after
    ∙ ap (λ k. drop k (lent_lines ys)) j'
