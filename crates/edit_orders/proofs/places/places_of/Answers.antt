use Rattle.std.proofs.Common.{◌≡◌, ◌+◌, [], get_or, length, map, ap, ◌∙◌, subst, arith, IsPermutation}
use Rattle.std.proofs.lemmas.List.{get_or_default, length_push}
use Rattle.edit_orders.specs.Places.{IsPlaceIn}
use Rattle.edit_orders.proofs.PlaceFacts.{are_places, each_more}
use Rattle.edit_orders.proofs.places.places_of.Goals as goal

pub all-init : goal.all-init
all-init c = record { as_many = ap length c.new-places.ensures.items; each = λ k below. absurd (omega arith) }

pub all-preserved : goal.all-preserved
all-preserved c =
    let all = c.args.all.now in
    let order = c.args.order.now in
    let i = c.all.values-index in
    let sorted = map (λ s. s.now) c.in_ok-sorted.sorted.items in
    let values : c.as_slice.result.now ≡ get_or all i [] =
    c.as_slice.ensures ∙ c.values-item.is ∙ get_or_default all i c.values-item.result [] c.all-test.true in
    let here : IsPlaceIn order sorted (get_or all i []) c.place_in.result =
    subst (λ t. IsPlaceIn order sorted t c.place_in.result) values
    (subst (λ l. IsPlaceIn order (map (λ s. s.now) l) c.as_slice.result.now c.place_in.result) c.deref.ensures.value c.place_in.ensures) in
    record {
      as_many = ap length c.in_ok-push.ensures.items ∙ length_push c.all.places.items c.place_in.result
          ∙ ap (λ n. n + 1) c.all.invariant.as_many;
      each = each_more (λ k n. IsPlaceIn order sorted (get_or all k []) n) c.all.places.items c.push.new.self.items
          c.place_in.result i c.all.invariant.as_many c.in_ok-push.ensures.items here c.all.invariant.each;
    }

pub returns : goal.returns
returns c =
    let all = c.args.all.now in
    let sorted = map (λ s. s.now) c.in_ok-sorted.sorted.items in
    let every : c.all.values-index ≡ length all = omega arith in
    are_places c.args.order.now all sorted c.all.places.items
    (subst (λ l. IsPermutation l sorted) c.in_ok-slices.ensures c.in_ok-sorted.ensures.same)
    (c.all.invariant.as_many ∙ every) (λ k within. c.all.invariant.each k (omega (arith, every)))
