use Rattle.std.proofs.lemmas.Grind.{common_steps}
use Rattle.std.proofs.Common.{◌≡◌, ℕ, List, Bool, Some, length, ap, ◌∙◌, sym, subst, arith}
use Rattle.std.proofs.lemmas.List.{with_items_is}
use Rattle.bib_collections.specs.Graph.{Graph}
use Rattle.bib_collections.specs.Rows.{rows}
use Rattle.bib_collections.specs.Search.{IsSpread, root_at}
use Rattle.bib_collections.proofs.Roots.{same_root, returning_more}
use Rattle.bib_collections.proofs.cycles.marks_leading_to_roots.Goals as goal
use Rattle.bib_collections.proofs.cycles.marks_leading_to_roots.Goals.{then-eq+in_ok-spread, else-eq}

pub loop-index-preserved : goal.loop-index-preserved
loop-index-preserved c =
    let graph : Graph = rows c.args.refs.now in
    let inside : Graph = rows c.in_ok-inside.inside.items in
    let index : ℕ = c.loop-index.index in
    let old : List Bool = c.loop-index.marks.items in
    elim c.if-eq.branch [
      | then-eq+in_ok-spread w ↦
          let new : List Bool = w.spread.new.marks in
          let len : length new ≡ length old = w.in_ok-spread.ensures.length ∙ ap length w.deref_mut.ensures.value in
          let items : c.if-eq.marks.items ≡ new =
          ap (λ v. v.items) w.marks-is
          ∙ with_items_is c.loop-index.marks new (omega (arith, len, c.loop-index.marks.ok.0)) in
          let spread : IsSpread inside index old new = subst (λ l. IsSpread inside index l new) w.deref_mut.ensures.value
          (subst (λ g. IsSpread (rows g) index w.deref_mut.result.now new) w.deref.ensures.value w.in_ok-spread.ensures.spread) in
          let root : root_at c.args.roots.now index ≡ Some index =
          same_root (root_at c.args.roots.now index) (Some index) (sym c.eq.ensures ∙ w.if-eq.true) in
          rw items (record {
            as_long = len ∙ c.loop-index.invariant.as_long;
            closed = spread.closed;
            returning =
                returning_more graph c.args.roots.now inside c.in_ok-inside.ensures index old new c.requires.roots root
                spread c.loop-index.invariant.returning;
          })
      | else-eq w ↦ rw (ap (λ v. v.items) w.marks-is) c.loop-index.invariant
    ]

pub loop-index-init : goal.loop-index-init
loop-index-init c = grind (arith, common_steps)

pub spread-requires-clause-start : goal.spread-requires-clause-start
spread-requires-clause-start c = grind (arith, common_steps)

pub spread-requires-clause-marks : goal.spread-requires-clause-marks
spread-requires-clause-marks c = grind (arith, common_steps)
