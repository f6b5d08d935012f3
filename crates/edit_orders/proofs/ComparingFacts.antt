-- Facts about the order of sort values.
use Rattle.std.proofs.Common.{◌≡◌, ℕ, zero, suc, ◌+◌, ◌<◌, true, false, List, [], ◌∷◌, Option, Ordering, Less, Equal, Greater, drop, get_or, length, refl, sym, ap, ap₂, ◌∙◌, arith}
use Rattle.std.proofs.lemmas.Bool.{true≢false}
use Rattle.std.specs.Ordering.{is_ne, ordering_then}
use Rattle.std.proofs.Math.Seq.{drop-nil}
use Rattle.std.proofs.lemmas.List.{drop_more}
use Rattle.edit_orders.specs.Values.{head_value, last_cmp, later_values, values_cmp}
use Rattle.edit_orders.specs.declared.order.SortBy.{SortBy}
use Rattle.edit_orders.specs.declared.values.SortValue.{SortValue}

rest_drop : (vs : List (Option SortValue)) (i : ℕ) → later_values (drop i vs) ≡ drop (i + 1) vs
rest_drop [] i = ap later_values (drop-nil i) ∙ sym (drop-nil (i + 1))
rest_drop (v ∷ vs) zero = refl
rest_drop (v ∷ vs) (suc i) =
    let more : suc (i + 1) ≡ suc i + 1 = omega arith in
    rest_drop vs i ∙ ap (λ n. drop n (v ∷ vs)) more

-- the order by the properties from an index on: that by the property there, and then by the others
pub values_step : (order : List SortBy) (vs ws : List (Option SortValue)) (i : ℕ) (by : SortBy) → i < length order
    → values_cmp (drop i order) (drop i vs) (drop i ws)
    ≡ ordering_then (last_cmp (get_or order i by).direction (head_value (drop i vs)) (head_value (drop i ws)))
    (values_cmp (drop (i + 1) order) (drop (i + 1) vs) (drop (i + 1) ws))
values_step order vs ws i by within =
    ap (λ l. values_cmp l (drop i vs) (drop i ws)) (drop_more order i by within)
    ∙ ap₂ (λ a b. ordering_then (last_cmp (get_or order i by).direction (head_value (drop i vs)) (head_value (drop i ws)))
    (values_cmp (drop (i + 1) order) a b)) (rest_drop vs i) (rest_drop ws i)

-- an order that isn't `Equal` decides
pub then_ne : (o rest : Ordering) → is_ne o ≡ true → ordering_then o rest ≡ o
then_ne Less rest is = refl
then_ne Equal rest is = absurd (true≢false (sym is))
then_ne Greater rest is = refl

-- if the first order is `Equal`, the rest decides
pub then_eq : (o rest : Ordering) → is_ne o ≡ false → ordering_then o rest ≡ rest
then_eq Less rest is = absurd (true≢false is)
then_eq Equal rest is = refl
then_eq Greater rest is = absurd (true≢false is)
