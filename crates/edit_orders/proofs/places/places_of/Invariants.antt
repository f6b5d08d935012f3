use Rattle.std.proofs.Common.{◌≡◌, ◌<◌, ℕ, [], get_or, length, map}
use Rattle.edit_orders.specs.Places.{IsPlaceIn}
use Rattle.edit_orders.proofs.places.places_of.Given as goal

-- the places so far are those of the first entries
abbrev pub invariant-all : goal.invariant-all
invariant-all l = record {
  as_many : length l.places.items ≡ l.values-index;
  each : (k : ℕ) → k < l.values-index
      → IsPlaceIn l.order (map (λ s. s.now) l.sorted.items) (get_or l.all k []) (get_or l.places.items k 0);
}
