use Rattle.std.proofs.Common.{◌≡◌, length, arith, inl, inr, ap, ◌∙◌, subst}
use Rattle.std.proofs.lemmas.List.{get_or_default}
use Rattle.bib_collections.proofs.Fill.{ready_step, ready_end, IsReadyTo}
use Rattle.bib_collections.proofs.worklist.ready_indices.Goals as goal
use Rattle.bib_collections.proofs.worklist.ready_indices.Goals.{then-missing-index-eq0+in_ok-push, else-missing-index-eq0}

pub loop-index-preserved : goal.loop-index-preserved
loop-index-preserved c =
    let same = get_or_default c.args.missing.now c.loop-index.index 0 1 (omega arith) in
    elim c.if-missing-index-eq0.branch [
      | then-missing-index-eq0+in_ok-push w ↦ ready_step c.args.missing.now c.loop-index.ready.items
          c.if-missing-index-eq0.ready.items c.loop-index.index
          (inl (
            omega (arith, same, w.if-missing-index-eq0.true),
            ap (λ v. v.items) w.ready-is ∙ w.in_ok-push.ensures.items,
          )) c.loop-index.invariant
      | else-missing-index-eq0 w ↦ ready_step c.args.missing.now c.loop-index.ready.items
          c.if-missing-index-eq0.ready.items c.loop-index.index
          (inr (omega (arith, same, w.if-missing-index-eq0.false), ap (λ v. v.items) w.ready-is)) c.loop-index.invariant
    ]

pub returns : goal.returns
returns c =
    let at_end : c.loop-index.index ≡ length c.args.missing.now = omega arith in
    ready_end c.args.missing.now c.loop-index.ready.items
    (subst (IsReadyTo c.args.missing.now c.loop-index.ready.items) at_end c.loop-index.invariant)
