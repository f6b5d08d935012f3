-- A topological order has at most as many indices as the graph.
use Rattle.std.proofs.Common.{◌≡◌, inl, inr, ℕ, ◌<◌, ◌≤◌, Bool, true, false, cond, eqb, ltb, List, [], ◌∷◌, length, refl, sym, ap, ◌∙◌, arith}
use Rattle.std.specs.Prelude.{◌||◌}
use Rattle.std.specs.List.{AllByRecursion, IsDistinct, list_any}
use Rattle.std.proofs.lemmas.Bool.{cases_lt, le-ltb}
use Rattle.std.proofs.lemmas.Bool.Decides.{eqb_tells}
use Rattle.std.proofs.lemmas.List.Sums.{sum_by-cons}
use Rattle.std.proofs.lemmas.Map.Steps.{length-le_from_distinct_below}
use Rattle.bib_collections.specs.Graph.{Graph, IsTopologicalOrder}
use Rattle.bib_collections.specs.Work.{times}
use Rattle.bib_collections.proofs.Work.{as_one}

itself : (n : ℕ) → eqb n n ≡ true
itself n = elim (eqb_tells n n) [ inl same ↦ same.0 | inr other ↦ absurd (other.1 refl) ]

one : (b : Bool) → cond {A = ℕ} b 1 0 ≤ 1
one true = omega arith
one false = omega arith

-- an index that doesn't occur among others differs from each of them
all_other : (x : ℕ) (xs : List ℕ) → times x xs ≡ 0 → AllByRecursion (λ y. eqb x y ≡ false) xs
all_other x [] none = tt
all_other x (y ∷ ys) none = elim (eqb_tells x y) [
  | inl same ↦ absurd (omega (arith, none, sum_by-cons (λ t. cond (eqb t x) 1 0) y ys, as_one (eqb y x) true (turned same.1)))
  | inr other ↦ (other.0, all_other x ys (omega (arith, none, sum_by-cons (λ t. cond (eqb t x) 1 0) y ys)))
]
  where
    turned : x ≡ y → eqb y x ≡ true
    turned same = ap (λ n. eqb y n) same ∙ itself y

-- indices are distinct if each occurs at most once
distinct : (xs : List ℕ) → ((p : ℕ) → times p xs ≤ 1) → IsDistinct eqb xs
unfolding IsDistinct
distinct [] once = tt
distinct (x ∷ xs) once = (
  all_other x xs (omega (arith, once x, sum_by-cons (λ t. cond (eqb t x) 1 0) x xs, as_one (eqb x x) true (itself x))),
  distinct xs (λ p. omega (arith, once p, sum_by-cons (λ t. cond (eqb t p) 1 0) x xs)),
)

-- an index that occurs occurs at least once
occurs : (q : ℕ) (xs : List ℕ) → list_any (eqb q) xs ≡ true → 0 < times q xs
occurs q [] any = absurd (cc)
occurs q (x ∷ xs) any = elim (eqb_tells q x) [
  | inl same ↦ omega (arith, sum_by-cons (λ t. cond (eqb t q) 1 0) x xs, as_one (eqb x q) true (ap (eqb x) same.1 ∙ itself x))
  | inr other ↦ omega (
    arith,
    sum_by-cons (λ t. cond (eqb t q) 1 0) x xs,
    occurs q xs (sym (ap (λ b. b || list_any (eqb q) xs) other.0) ∙ any),
  )
]

pub order_within : (graph : Graph) (order : List ℕ) → IsTopologicalOrder graph order → length order ≤ length graph
order_within graph order sorted =
    length-le_from_distinct_below order (length graph) (distinct order at_most)
    (λ q any. elim (cases_lt q (length graph)) [
      | inl below ↦ below
      | inr past ↦ absurd (omega (arith, occurs q order any, sorted.once q, as_one _ _ (le-ltb q (length graph) past)))
    ])
  where
    at_most : (p : ℕ) → times p order ≤ 1
    at_most p = omega (arith, sorted.once p, one (ltb p (length graph)))
