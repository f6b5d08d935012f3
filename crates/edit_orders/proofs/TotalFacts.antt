-- The order of sort values is a total order.
use Rattle.std.proofs.Common.{◌≡◌, ℕ, List, [], ◌∷◌, Option, None, Some, Ordering, Less, Equal, Greater, refl, subst}
use Rattle.std.specs.Cmp.{IsTotalOrder}
use Rattle.std.specs.Cmp.Lexicographic.{options_total, slice_cmp}
use Rattle.std.specs.Option.{option_cmp}
use Rattle.std.specs.Ordering.{flip_args, nat_cmp, on, ordering_then, then_cmp}
use Rattle.std.proofs.lemmas.Cmp.{back_total, lists_total, nat_cmp_total, nat_list_cmp_total, on_total, then_total}
use Rattle.edit_orders.specs.Values.{directed_cmp, head_value, last_cmp, later_values, value_cmp, values_cmp}
use Rattle.edit_orders.specs.declared.order.Direction.{Direction}
use Rattle.edit_orders.specs.declared.order.Direction.TheVariants.{Ascending, Descending}
use Rattle.edit_orders.specs.declared.order.SortBy.{SortBy}
use Rattle.edit_orders.specs.declared.values.SortValue.{SortValue}
use Rattle.edit_orders.specs.declared.values.SortValue.TheVariants.{Number, Texts}

kind : SortValue → ℕ
kind (Number n) = 0
kind (Texts ts) = 1

number : SortValue → ℕ
number (Number n) = n
number (Texts ts) = 0

texts : SortValue → List (List ℕ)
texts (Number n) = []
texts (Texts ts) = ts

then_Equal : (o : Ordering) → ordering_then o Equal ≡ o
then_Equal Less = refl
then_Equal Equal = refl
then_Equal Greater = refl

by_parts : SortValue → SortValue → Ordering
by_parts = then_cmp (on kind nat_cmp) (then_cmp (on number nat_cmp) (on texts (slice_cmp (slice_cmp nat_cmp))))

as_parts : (v w : SortValue) → by_parts v w ≡ value_cmp v w
unfolding by_parts kind number texts
as_parts (Number n) (Number m) = then_Equal (nat_cmp n m)
as_parts (Number n) (Texts us) = refl
as_parts (Texts ts) (Number m) = refl
as_parts (Texts ts) (Texts us) = refl

parts_total : IsTotalOrder by_parts
unfolding by_parts
parts_total =
    then_total (on_total kind nat_cmp_total)
    (then_total (on_total number nat_cmp_total) (on_total texts (lists_total nat_list_cmp_total)))

value_total : IsTotalOrder value_cmp
value_total = subst IsTotalOrder (λ i v w. as_parts v w i) parts_total

directed_total : (direction : Direction) → IsTotalOrder (directed_cmp direction)
directed_total Ascending = value_total
directed_total Descending = back_total value_total

as_options : (direction : Direction) (v w : Option SortValue)
    → flip_args (option_cmp (flip_args (directed_cmp direction))) v w ≡ last_cmp direction v w
as_options direction None None = refl
as_options direction None (Some w) = refl
as_options direction (Some v) None = refl
as_options direction (Some v) (Some w) = refl

last_total : (direction : Direction) → IsTotalOrder (last_cmp direction)
last_total direction =
    subst IsTotalOrder (λ i v w. as_options direction v w i) (back_total (options_total (back_total (directed_total direction))))

-- the order of entries by some properties is a total order
pub values_total : (order : List SortBy) → IsTotalOrder (values_cmp order)
values_total [] = on_total (λ vs. 0) nat_cmp_total
values_total (s ∷ order) = then_total (on_total head_value (last_total s.direction)) (on_total later_values (values_total order))
