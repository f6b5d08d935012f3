use Rattle.std.proofs.lemmas.Grind.{common_steps}
use Rattle.std.proofs.Common.{ℕ, List, ◌≡◌, ◌<◌, [], get_or, length, arith, ap, sym, ◌∙◌, subst, rules}
use Rattle.std.proofs.lemmas.List.{map-set, length-replicate}
use Rattle.std.specs.declared.alloc.Global.{Global}
use Rattle.std.specs.declared.vec.Vec.{Vec}
use Rattle.bib_collections.specs.Rows.{rows}
use Rattle.bib_collections.specs.Search.{root_at, AreBackInside}
use Rattle.bib_collections.proofs.Rows.{length-rows, row_at, edge_at}
use Rattle.bib_collections.proofs.Fill.{empty_rows}
use Rattle.bib_collections.proofs.Roots.{same_root, inside_none, inside_more}
use Rattle.bib_collections.proofs.Walks.{below_from_edge}
use Rattle.bib_collections.proofs.cycles.waiting_lists_inside.Goals as goal
use Rattle.bib_collections.proofs.cycles.waiting_lists_inside.Goals.{then-eq+in_ok-push-2, else-eq}

pub offset_bounds-roots-r : goal.offset_bounds-roots-r
offset_bounds-roots-r c =
    let refs = c.args.refs.now in
    let r : ℕ = get_or c.deref-r-items.result.now c.loop-r.r-index 0 in
    let edge =
    edge_at refs c.loop-entry.entry c.index-refs-entry.result c.deref-r-items.result.now c.loop-r.r-index
    (omega arith) c.index-refs-entry.is c.deref-r-items.ensures.value (omega arith) in
    let within = below_from_edge (rows refs) c.loop-entry.entry r c.requires.in_range (omega (arith, length-rows refs)) edge in
    let h : r < length c.args.roots.now = omega (arith, within, length-rows refs, c.requires.roots) in
    search rules

pub bounds-roots-r : goal.bounds-roots-r
bounds-roots-r c =
    let refs = c.args.refs.now in
    let edge =
    edge_at refs c.loop-entry.entry c.index-refs-entry.result c.deref-r-items.result.now c.loop-r.r-index
    (omega arith) c.index-refs-entry.is c.deref-r-items.ensures.value (omega arith) in
    let within = below_from_edge (rows refs) c.loop-entry.entry _ c.requires.in_range (omega (arith, length-rows refs)) edge in
    omega (arith, within, length-rows refs, c.requires.roots)

pub index_mut-requires : goal.index_mut-requires
index_mut-requires c =
    let refs = c.args.refs.now in
    let edge =
    edge_at refs c.loop-entry.entry c.index-refs-entry.result c.deref-r-items.result.now c.loop-r.r-index
    (omega arith) c.index-refs-entry.is c.deref-r-items.ensures.value (omega arith) in
    let below = below_from_edge (rows refs) c.loop-entry.entry _ c.requires.in_range (omega (arith, length-rows refs)) edge in
    omega (arith, below, c.loop-r.invariant.same_length, length-rows c.loop-r.inside.items, c.loop-r.inside.ok.0)

pub loop-r-preserved : goal.loop-r-preserved
loop-r-preserved c =
    let refs = c.args.refs.now in
    let inside = c.loop-r.inside.items in
    let entry = c.loop-entry.entry in
    let r : ℕ = get_or c.deref-r-items.result.now c.loop-r.r-index 0 in
    let edge =
    edge_at refs entry c.index-refs-entry.result c.deref-r-items.result.now c.loop-r.r-index (omega arith)
    c.index-refs-entry.is c.deref-r-items.ensures.value (omega arith) in
    let below = below_from_edge (rows refs) entry r c.requires.in_range (omega (arith, length-rows refs)) edge in
    let r_in : r < length (rows inside) = omega (arith, below, c.loop-r.invariant.same_length) in
    elim c.if-eq.branch [
      | then-eq+in_ok-push-2 w ↦
          let old = row_at inside r w.index_mut.result.now (omega (arith, r_in, length-rows inside)) w.index_mut.ensures.value in
          let same = same_root (root_at c.args.roots.now r) (root_at c.args.roots.now entry) (sym c.eq.ensures ∙ w.if-eq.true) in
          let more = inside_more (rows refs) c.args.roots.now (rows inside) r entry r_in edge same c.loop-r.invariant in
          rw (
            ap (λ v. rows v.items) w.inside-is,
            map-set (λ (v : Vec ℕ Global). v.items) inside r w.push-then-eq.new.self,
            w.in_ok-push-2.ensures.items,
            ← old,
          ) more
      | else-eq w ↦ subst
          (λ (v : Vec (Vec ℕ Global) Global). AreBackInside (rows refs) c.args.roots.now (rows v.items))
          (sym w.inside-is) c.loop-r.invariant
    ]

pub loop-entry-init : goal.loop-entry-init
loop-entry-init c =
    let len : length (rows c.loop-index.inside.items) ≡ length (rows c.args.refs.now) =
    omega (
      arith,
      length-rows c.args.refs.now,
      ap length c.loop-index.invariant,
      length-replicate {A = List ℕ} c.loop-index._index [],
    ) in
    inside_none (rows c.args.refs.now) c.args.roots.now (rows c.loop-index.inside.items) len
    (λ p. rw c.loop-index.invariant (empty_rows c.loop-index._index p))

pub returns : goal.returns
returns c = c.loop-entry.invariant

pub loop-index-preserved : goal.loop-index-preserved
loop-index-preserved c = grind (arith, common_steps)
