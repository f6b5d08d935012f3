use Rattle.std.proofs.lemmas.Grind.{common_steps}
use Rattle.std.proofs.Common.{◌≡◌, ◌<◌, ◌⊎◌, ℕ, true, false, length, set, sym, ap, ◌∙◌, subst, arith, Some, length-set}
use Rattle.std.specs.List.{All, Contains}
use Rattle.std.proofs.lemmas.List.{with_items_is, get_or_default}
use Rattle.std.proofs.lemmas.List.Elements.{All-pop, All-weaker}
use Rattle.bib_collections.specs.Graph.{Leads}
use Rattle.bib_collections.specs.Rows.{rows}
use Rattle.bib_collections.specs.Search.{IsSpread, AreSuspects, is_marked, root_at}
use Rattle.bib_collections.proofs.Roots.{roots_set}
use Rattle.bib_collections.proofs.Rows.{length-rows}
use Rattle.bib_collections.proofs.Search.{closed_more, suspects_more}
use Rattle.bib_collections.proofs.cycles.search.Goals as goal

pub set_root-requires : goal.set_root-requires
set_root-requires c =
    let refs = c.args.refs.now in
    let len : length c.deref_mut-in-Some.result.now ≡ length (rows refs) =
    omega (arith, ap length c.deref_mut-in-Some.ensures.value, c.loop-root.invariant.as_many, length-rows refs) in
    record {
      indices = subst (λ n. All (λ r. r < n) c.deref.result.now) (sym len)
          (subst (λ l. All (λ r. r < length (rows refs)) l) (sym c.deref.ensures.value)
          (All-weaker (λ r. (r < length (rows refs)) × Leads (rows refs) c.in-Some.root r) (λ r. r < length (rows refs))
          (λ r h. h.0) c.in_ok-reached.reached.items c.in_ok-reached.ensures.reached));
    }

pub loop-root-preserved : goal.loop-root-preserved
loop-root-preserved c =
    let refs = c.args.refs.now in
    let root = c.in-Some.root in
    let new = c.spread.new.marks in
    let popped =
    All-pop (λ p. p < length refs) c.loop-root.order.items c.pop.new.self.items (Some root) c.in-Some.ensures.items
    c.loop-root.invariant.order in
    let within : root < length (rows refs) = omega (arith, popped.1, length-rows refs) in
    let len : length new ≡ length c.loop-root.marks.items = c.in_ok-reached.ensures.length ∙ ap length c.deref_mut.ensures.value in
    let is = with_items_is c.loop-root.marks new (omega (arith, len, c.loop-root.marks.ok.0)) in
    let spread : IsSpread (rows refs) root c.deref_mut.result.now new = c.in_ok-reached.ensures.spread in
    let read = rw is at c.index-in-Some.ensures in
    let at : is_marked new root ≡ c.index-in-Some.result.now =
    get_or_default new root false c.index-in-Some.result.now (omega (arith, spread.same_length, within)) ∙ sym read in
    let roots = c.set_root.new.roots in
    let as_many : length roots ≡ length c.loop-root.roots.items = c.set_root.ensures.length ∙ ap length c.deref_mut-in-Some.ensures.value in
    let roots_are = with_items_is c.loop-root.roots roots (omega (arith, as_many, c.loop-root.roots.ok.0)) in
    let sets : (index : ℕ)
    → (root_at roots index ≡ root_at c.loop-root.roots.items index)
    ⊎ ((root_at roots index ≡ Some root) × Contains c.in_ok-reached.reached.items index)
    =
    subst
    (λ l.
    (index : ℕ)
    → (root_at roots index ≡ root_at c.loop-root.roots.items index)
    ⊎ ((root_at roots index ≡ Some root) × Contains l index)) c.deref.ensures.value
    (subst
    (λ l.
    (index : ℕ)
    → (root_at roots index ≡ root_at l index)
    ⊎ ((root_at roots index ≡ Some root) × Contains c.deref.result.now index))
    c.deref_mut-in-Some.ensures.value c.set_root.ensures.set) in
    rw (is, roots_are)
    (record {
      marks = length-set new root true ∙ spread.same_length ∙ length-rows refs;
      as_long = length-set c.loop-root.suspects.items root c.index-in-Some.result.now ∙ c.loop-root.invariant.as_long;
      as_many = as_many ∙ c.loop-root.invariant.as_many;
      order = popped.0;
      closed = closed_more (rows refs) root c.deref_mut.result.now new within spread;
      suspects = subst (λ b. AreSuspects (rows refs) (set c.loop-root.suspects.items root b)) at
          (suspects_more (rows refs) root c.loop-root.suspects.items c.deref_mut.result.now new
          (omega (arith, popped.1, c.loop-root.invariant.as_long)) spread c.loop-root.invariant.suspects);
      roots =
          roots_set (rows refs) root c.in_ok-reached.reached.items c.loop-root.roots.items roots
          c.in_ok-reached.ensures.reached sets c.loop-root.invariant.roots;
    })

pub loop-root-init : goal.loop-root-init
loop-root-init c = grind (arith, common_steps)

pub loop-root-preserved-then-index : goal.loop-root-preserved-then-index
loop-root-preserved-then-index c = grind (arith, common_steps)
