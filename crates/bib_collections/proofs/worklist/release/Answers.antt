use Rattle.std.proofs.lemmas.Grind.{common_steps}
use Rattle.std.proofs.Common.{◌≡◌, ◌≢◌, ◌<◌, ◌-◌, ℕ, get_or, length, arith, inl, inr, ap, ◌∙◌, List, [], ◌∷◌, ◌++◌, ◌⊎◌, get_or-set_same}
use Rattle.std.proofs.lemmas.List.{get_or_default}
use Rattle.std.proofs.lemmas.List.Elements.{All-get_or}
use Rattle.bib_collections.specs.Work.{missing_at}
use Rattle.bib_collections.proofs.Work.{released_some, released_more}
use Rattle.bib_collections.proofs.worklist.release.Goals as goal
use Rattle.bib_collections.proofs.worklist.release.Goals.{then-missing-w-eq0+in_ok-push, else-missing-w-eq0}

pub overflow_sub-missing : goal.overflow_sub-missing
overflow_sub-missing c =
    let w : ℕ = get_or c.args.waiting.now c.loop-w.w-index 0 in
    let below : w < length c.args.missing.now =
    All-get_or (λ x. x < length c.args.missing.now) c.args.waiting.now c.loop-w.w-index 0 (omega arith)
    c.requires.below in
    let some =
    released_some c.args.missing.now c.args.waiting.now c.args.ready.now.items c.loop-w.w-index c.loop-w.missing
    c.loop-w.ready.items (omega arith) below (c.requires.enough w below) c.loop-w.invariant in
    omega (arith, some, get_or_default c.loop-w.missing w 0 1 (omega (arith, below, c.loop-w.invariant.same_length)))

pub loop-w-preserved : goal.loop-w-preserved
loop-w-preserved c =
    let w : ℕ = get_or c.args.waiting.now c.loop-w.w-index 0 in
    let below : w < length c.args.missing.now =
    All-get_or (λ x. x < length c.args.missing.now) c.args.waiting.now c.loop-w.w-index 0 (omega arith)
    c.requires.below in
    let some =
    released_some c.args.missing.now c.args.waiting.now c.args.ready.now.items c.loop-w.w-index c.loop-w.missing
    c.loop-w.ready.items (omega arith) below (c.requires.enough w below) c.loop-w.invariant in
    let same = get_or_default c.loop-w.missing w 0 1 (omega (arith, below, c.loop-w.invariant.same_length)) in
    let w_in : w < length c.loop-w.missing = omega (arith, below, c.loop-w.invariant.same_length) in
    let after = get_or-set_same c.loop-w.missing w (get_or c.loop-w.missing w 0 - 1) 0 w_in in
    let step =
    λ (ready : List ℕ)
    (cases : ((missing_at c.loop-w.missing w ≡ 1) × (ready ≡ c.loop-w.ready.items ++ w ∷ []))
    ⊎ ((missing_at c.loop-w.missing w ≢ 1) × (ready ≡ c.loop-w.ready.items))).
    released_more c.args.missing.now c.args.waiting.now c.args.ready.now.items c.loop-w.w-index c.loop-w.missing
    c.loop-w.ready.items ready (omega arith) below some cases c.loop-w.invariant in
    elim c.if-missing-w-eq0.branch [
      | then-missing-w-eq0+in_ok-push w1 ↦
          let h = w1.if-missing-w-eq0.true in
          rw same
          (step c.if-missing-w-eq0.ready.items
          (inl
          (omega (arith, h, after, same, some), ap (λ v. v.items) w1.ready-is ∙ w1.in_ok-push.ensures.items)))
      | else-missing-w-eq0 w1 ↦
          let h = w1.if-missing-w-eq0.false in
          rw same (step c.if-missing-w-eq0.ready.items (inr (λ e. h (omega (arith, e, after, same)), ap (λ v. v.items) w1.ready-is)))
    ]

pub returns-clause-missing : goal.returns-clause-missing
returns-clause-missing c = grind (arith, common_steps)
