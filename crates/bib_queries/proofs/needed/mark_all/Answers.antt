use Rattle.std.proofs.Common.{◌<◌, ℕ, true, false, length, get_or, subst, sym, ap, ◌∙◌, arith, length-set, get_or-set_same}
use Rattle.std.specs.List.{All}
use Rattle.std.proofs.lemmas.List.{take_all}
use Rattle.std.proofs.lemmas.List.Elements.{All-get_or}
use Rattle.bib_queries.specs.Needed.{IsMarked}
use Rattle.bib_queries.proofs.MarkFacts.{mark_kept}
use Rattle.bib_queries.proofs.SearchFacts.{mark_next, all_next}
use Rattle.bib_queries.proofs.needed.mark_all.Goals as goal
use Rattle.bib_queries.proofs.needed.mark_all.Goals.{then-not-marks-index+in_ok-push, else-not-marks-index}

pub indices-preserved : goal.indices-preserved
indices-preserved c =
    let indices = c.args.indices.now in
    let k : ℕ = c.indices.index-index in
    let r : ℕ = get_or indices k 0 in
    let below : k < length indices = omega arith in
    let within : r < length c.indices.marks =
    omega (
      arith,
      All-get_or (λ i. i < length c.args.marks.now) indices k 0 below c.requires,
      c.indices.invariant.length,
    ) in
    elim c.if-not-marks-index.branch [
      | then-not-marks-index+in_ok-push w ↦ record {
        length = ap length w.marks-is ∙ length-set c.indices.marks r true ∙ c.indices.invariant.length;
        marks =
            mark_next indices k c.args.marks.now c.args.pending.now.items c.indices.marks c.if-not-marks-index.marks
            c.indices.pending.items c.if-not-marks-index.pending.items below within w.if-not-marks-index.true
            w.marks-is (ap (λ v. v.items) w.pending-is ∙ w.in_ok-push.ensures.items) c.indices.invariant.marks;
        all =
            all_next indices k c.indices.marks c.if-not-marks-index.marks below
            (λ i h. subst (λ m. IsMarked m i) (sym w.marks-is) (mark_kept c.indices.marks r i within h))
            (subst (λ m. IsMarked m r) (sym w.marks-is) (get_or-set_same c.indices.marks r true false within)) c.indices.invariant.all;
      }
      | else-not-marks-index w ↦ rw (w.marks-is, ap (λ v. v.items) w.pending-is) (record {
        length = c.indices.invariant.length;
        marks = c.indices.invariant.marks;
        all = all_next indices k c.indices.marks c.indices.marks below (λ i h. h) w.if-not-marks-index.false c.indices.invariant.all;
      })
    ]

pub returns-clause-all : goal.returns-clause-all
returns-clause-all c =
    subst (λ l. All (IsMarked c.indices.marks) l)
    (take_all c.indices.index-index c.args.indices.now c.indices-test.false) c.indices.invariant.all
