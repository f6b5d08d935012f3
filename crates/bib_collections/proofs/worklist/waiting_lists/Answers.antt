use Rattle.std.proofs.Common.{ℕ, List, ◌≡◌, ◌<◌, [], get_or, length, arith, ap, sym, ◌∙◌}
use Rattle.std.proofs.lemmas.List.{map-set, map_push, replicate_more, length-replicate}
use Rattle.std.specs.declared.alloc.Global.{Global}
use Rattle.std.specs.declared.vec.Vec.{Vec}
use Rattle.bib_collections.specs.Rows.{rows}
use Rattle.bib_collections.proofs.Rows.{length-rows, row_at, edge_at}
use Rattle.bib_collections.proofs.Fill.{empty_rows, filled_none, filled_next, filled_all, filled_more}
use Rattle.bib_collections.proofs.Walks.{below_from_edge}
use Rattle.bib_collections.proofs.worklist.waiting_lists.Goals as goal

pub loop-index-init : goal.loop-index-init
loop-index-init c = ap rows c.new-waiting.ensures.items

pub loop-index-preserved : goal.loop-index-preserved
loop-index-preserved c =
    rw c.in_ok-push.ensures.items
    (map_push (λ (v : Vec ℕ Global). v.items) c.loop-index.waiting.items c.new.result
    ∙ rw (c.loop-index.invariant, c.new.ensures.items) (replicate_more c.loop-index._index []))

pub loop-entry-init : goal.loop-entry-init
loop-entry-init c =
    let len : length (rows c.loop-index.waiting.items) ≡ length (rows c.args.refs.now) =
    omega (
      arith,
      length-rows c.args.refs.now,
      ap length c.loop-index.invariant,
      length-replicate {A = List ℕ} c.loop-index._index [],
    ) in
    filled_none (rows c.args.refs.now) (rows c.loop-index.waiting.items) len
    (λ p. rw c.loop-index.invariant (empty_rows c.loop-index._index p))

pub loop-entry-preserved : goal.loop-entry-preserved
loop-entry-preserved c =
    let refs = c.args.refs.now in
    let row = row_at refs c.loop-entry.entry c.index-refs-entry.result (omega arith) c.index-refs-entry.is in
    filled_next (rows refs) (rows c.loop-r.waiting.items) c.loop-entry.entry c.loop-r.r-index
    (omega (arith, ap length row, ap length c.deref-r-items.ensures.value)) c.loop-r.invariant

pub index_mut-requires : goal.index_mut-requires
index_mut-requires c =
    let refs = c.args.refs.now in
    let edge =
    edge_at refs c.loop-entry.entry c.index-refs-entry.result c.deref-r-items.result.now c.loop-r.r-index
    (omega arith) c.index-refs-entry.is c.deref-r-items.ensures.value (omega arith) in
    let below = below_from_edge (rows refs) c.loop-entry.entry _ c.requires.in_range (omega (arith, length-rows refs)) edge in
    omega (arith, below, c.loop-r.invariant.same_length, length-rows c.loop-r.waiting.items, c.loop-r.waiting.ok.0)

pub loop-r-preserved : goal.loop-r-preserved
loop-r-preserved c =
    let refs = c.args.refs.now in
    let waiting = c.loop-r.waiting.items in
    let r : ℕ = get_or c.deref-r-items.result.now c.loop-r.r-index 0 in
    let edge =
    edge_at refs c.loop-entry.entry c.index-refs-entry.result c.deref-r-items.result.now c.loop-r.r-index
    (omega arith) c.index-refs-entry.is c.deref-r-items.ensures.value (omega arith) in
    let below = below_from_edge (rows refs) c.loop-entry.entry _ c.requires.in_range (omega (arith, length-rows refs)) edge in
    let r_in : r < length (rows waiting) = omega (arith, below, c.loop-r.invariant.same_length) in
    let row = row_at refs c.loop-entry.entry c.index-refs-entry.result (omega arith) c.index-refs-entry.is in
    let old = row_at waiting r c.index_mut.result.now (omega (arith, r_in, length-rows waiting)) c.index_mut.ensures.value in
    let same = row ∙ sym c.deref-r-items.ensures.value in
    let more =
    filled_more (rows refs) (rows waiting) c.loop-entry.entry c.loop-r.r-index r (omega (arith, ap length same))
    (ap (λ l. get_or l c.loop-r.r-index 0) (sym same)) r_in c.loop-r.invariant in
    rw (map-set (λ (v : Vec ℕ Global). v.items) waiting r c.push-in-loop-r.new.self, c.in_ok-push-2.ensures.items, ← old) more

pub returns : goal.returns
returns c =
    filled_all (rows c.args.refs.now) (rows c.loop-entry.waiting.items) c.loop-entry.entry
    (omega (arith, length-rows c.args.refs.now)) c.loop-entry.invariant
