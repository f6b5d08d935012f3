use Rattle.std.proofs.Common.{◌≡◌, ◌<◌, ◌+◌, ◌⊎◌, inl, inr, ℕ, List, Bool, true, false, length, set, ap, ◌∙◌, sym, subst, arith}
use Rattle.std.proofs.lemmas.List.{get_or_default}
use Rattle.bib_collections.specs.Graph.{Graph}
use Rattle.bib_collections.specs.Rows.{rows}
use Rattle.bib_collections.specs.Search.{AreSuspects, is_marked}
use Rattle.bib_collections.proofs.Roots.{AreMarkedTo, marked_left, marked_more, marked_all}
use Rattle.bib_collections.proofs.Rows.{length-rows}
use Rattle.bib_collections.proofs.cycles.marks_on_cycles.Goals as goal
use Rattle.bib_collections.proofs.cycles.marks_on_cycles.Goals.{then-index+then-not-index+in_ok-marks-2, else-index, else-index-via-then-index+else-not-index, else-index-via-else-index}

pub loop-index-init : goal.loop-index-init
loop-index-init c = record {
  same_length = c.in_ok-marks.ensures.length ∙ sym (length-rows c.args.refs.now);
  sound = c.in_ok-marks.ensures.returning;
  whole = λ q below. absurd (omega (arith, below));
}

pub loop-index-preserved : goal.loop-index-preserved
loop-index-preserved c =
    let graph : Graph = rows c.args.refs.now in
    let index : ℕ = c.loop-index.index in
    let marks : List Bool = c.loop-index.marks.items in
    let suspects : List Bool = c.in_ok-suspects.field-0.suspects.items in
    let within : index < length graph = omega (arith, length-rows c.args.refs.now) in
    let found : AreSuspects graph suspects = c.in_ok-suspects.ensures.suspects in
    let long : length suspects ≡ length c.args.refs.now = c.in_ok-suspects.ensures.length in
    elim c.if-index.branch [
      | then-index+then-not-index+in_ok-marks-2 w ↦
          let written : c.if-index.marks.items ≡ set marks index w.in_ok-marks-2.field-0 = ap (λ v. v.items) w.marks-is in
          subst (AreMarkedTo graph (index + 1)) (sym written)
          (marked_more graph index w.in_ok-marks-2.field-0 marks within w.in_ok-marks-2.ensures
          c.loop-index.invariant)
      | else-index w ↦
          let left =
          λ (h : (is_marked suspects index ≡ false) ⊎ (is_marked marks index ≡ true)).
          subst (λ v. AreMarkedTo graph (index + 1) v.items) (sym w.marks-is)
          (marked_left graph index suspects marks within found h c.loop-index.invariant) in
          elim w.else-index.branch [
            | else-index-via-then-index+else-not-index v ↦ left
                (inr
                (get_or_default marks index false v.index-then-index.result.now
                (omega (arith, within, c.loop-index.invariant.same_length)) ∙ sym v.index-then-index.ensures
                ∙ v.if-not-index.false))
            | else-index-via-else-index v ↦ left
                (inl
                (get_or_default suspects index false c.index.result.now
                (omega (arith, within, long, length-rows c.args.refs.now)) ∙ sym c.index.ensures
                ∙ v.if-index.false))
          ]
    ]

pub returns : goal.returns
returns c =
    marked_all (rows c.args.refs.now) c.loop-index.marks.items c.loop-index.index
    (omega (arith, length-rows c.args.refs.now)) c.loop-index.invariant
