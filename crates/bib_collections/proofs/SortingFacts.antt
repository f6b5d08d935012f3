-- A stable sort of pairs that keeps the first pair of each name keeps the value of each name.
use Rattle.std.proofs.Common.{◌≡◌, ℕ, Bool, true, false, cond, not, ◌&&◌, T, List, [], ◌∷◌, reverse, Option, Some, None, refl, sym, ap, subst, ◌∙◌, Ordering, Less, Equal, Greater, is_lt, is_eq, filter, IsSortedBy}
use Rattle.std.specs.List.{dedup, dedup_from, AllByRecursion}
use Rattle.std.specs.List.Sorted.{ties, IsStableBy, IsStrictlySortedBy}
use Rattle.std.specs.Cmp.{IsTotalOrder}
use Rattle.std.specs.Ordering.{ordering_reverse, eq_by_cmp}
use Rattle.std.proofs.lemmas.Cmp.{nat_list_cmp_total, on_total, alike_right}
use Rattle.std.proofs.lemmas.List.Kept.{IsStrictlySortedBy-dedup}
use Rattle.std.specs.FinMap as map
use Rattle.std.specs.FinMap.{find, is_sorted, get-from_sorted, get-from_entries, same_map}
use Rattle.std.specs.FinMap.Entries.{below_all}
use Rattle.bib_collections.specs.Sorted.{by_bytes, IsSorted, map_of}
use Rattle.bib_collections.proofs.SortedFacts.{both, tied, holds, is_true, by_bytes-IsAntisymmetric}

-- whether the key of the first pair is less than the key of the second
abbrev pub below : {K V : Type 0} → (K → K → Ordering) → K × V → K × V → Bool
below R a b = is_lt (R a.0 b.0)

-- whether the keys of two pairs compare as equal
abbrev pub tie : {K V : Type 0} → (K → K → Ordering) → K × V → K × V → Bool
tie R a b = eq_by_cmp R a.0 b.0

module _ {K V : Type 0} {R : K → K → Ordering} (o : IsTotalOrder R) where
  -- the pairs whose keys compare as equal to this one
  named : K → List (K × V) → List (K × V)
  named q = filter (λ e. eq_by_cmp R q e.0)

  -- the value of the first pair
  first_value : List (K × V) → Option V
  first_value [] = None
  first_value (e ∷ es) = Some e.1

  find-named : (q : K) (es : List (K × V)) → find R q es ≡ first_value (named q es)
  unfolding named first_value
  find-named q [] = refl
  find-named q (e ∷ es) =
      elim (eq_by_cmp R q e.0) as
      (λ b. cond b (Some e.1) (find R q es) ≡ first_value (cond b (e ∷ named q es) (named q es)))
      [ true ↦ refl | false ↦ find-named q es ]

  ties_are : (q : K) (v : V) (e : K × V) → ties (below R) (q, v) e ≡ eq_by_cmp R q e.0
  ties_are q v e =
      ap (λ r. not (is_lt (R q e.0)) && not (is_lt r)) (o.antisymm e.0 q)
      ∙ elim (R q e.0) as (λ r. (not (is_lt r) && not (is_lt (ordering_reverse r))) ≡ is_eq r)
      [ Less ↦ refl | Equal ↦ refl | Greater ↦ refl ]

  named-ties : (q : K) (v : V) (es : List (K × V)) → named q es ≡ filter (ties (below R) (q, v)) es
  unfolding named
  named-ties q v [] = refl
  named-ties q v (e ∷ es) = λ i. cond (sym (ties_are q v e) i) (e ∷ named-ties q v es i) (named-ties q v es i)

  -- a stable sort keeps the value of the first pair of a key `q`; `v` is any value
  found_by : (q : K) (v : V) (xs ys : List (K × V)) → IsStableBy (below R) xs ys → find R q ys ≡ find R q xs
  unfolding named first_value
  found_by q v xs ys stable =
      find-named q ys ∙ ap first_value (named-ties q v ys ∙ stable (q, v) ∙ sym (named-ties q v xs)) ∙ sym (find-named q xs)

  -- a stable sort keeps the value of the first pair of each key
  pub find-stable : (q : K) (xs ys : List (K × V)) → IsStableBy (below R) xs ys → find R q ys ≡ find R q xs
  find-stable q [] [] stable = refl
  find-stable q (x ∷ xs) ys stable = found_by q x.1 (x ∷ xs) ys stable
  find-stable q [] (y ∷ ys) stable = found_by q y.1 [] (y ∷ ys) stable

  same_past : (b c : Bool) (x y : Option V) → c ≡ b → cond b x y ≡ cond b x (cond c x y)
  same_past true c x y e = refl
  same_past false c x y e = ap (λ b. cond b x y) (sym e)

  hidden_past : (b c : Bool) (x y z : Option V) → c ≡ b → cond b x z ≡ cond b x (cond c y z)
  hidden_past true c x y z e = refl
  hidden_past false c x y z e = ap (λ b. cond b y z) (sym e)

  -- dropping later neighbours with the same key keeps the value of the first pair of each key
  pub find-dedup_from : (q : K) (k : K × V) (xs : List (K × V)) → find R q (dedup_from (tie R) k xs) ≡ find R q (k ∷ xs)
  find-dedup_from q k [] = refl
  find-dedup_from q k (x ∷ xs) =
      elim (tie R x k) as
      (λ b.
      tie R x k ≡ b
      → find R q (cond b (dedup_from (tie R) k xs) (k ∷ dedup_from (tie R) x xs)) ≡ find R q (k ∷ x ∷ xs)) [
        | true ↦ λ same. find-dedup_from q k xs
            ∙ hidden_past (eq_by_cmp R q k.0) (eq_by_cmp R q x.0) (Some k.1) (Some x.1) (find R q xs)
            (ap is_eq (alike_right o x.0 k.0 q (tied _ (holds _ same))))
        | false ↦ λ other. ap (cond (eq_by_cmp R q k.0) (Some k.1)) (find-dedup_from q x xs)
      ] refl

  -- removing all but the first of neighbours with the same name changes the value of no name
  pub find-dedup : (q : K) (xs : List (K × V)) → find R q (dedup (tie R) xs) ≡ find R q xs
  find-dedup q [] = refl
  find-dedup q (x ∷ xs) = find-dedup_from q x xs

  all_below : (x : K) (es : List (K × V)) → AllByRecursion (λ e. R x e.0 ≡ Less) es → T (below_all R x es)
  all_below x [] all = tt
  all_below x (e ∷ es) all = both _ _ (subst (λ r. T (is_lt r)) (sym all.0) tt) (all_below x es all.1)

  strictly : (es : List (K × V)) → IsStrictlySortedBy (λ a b. R a.0 b.0) es → T (is_sorted R es)
  unfolding IsStrictlySortedBy
  strictly [] rising = tt
  strictly (e ∷ es) rising = both _ _ (all_below e.0 es rising.0) (strictly es rising.1)

  -- pairs in order, without all but the first of neighbours with the same name, ascend strictly
  pub sorted-dedup : (xs : List (K × V)) → IsSortedBy (below R) xs → T (is_sorted R (dedup (tie R) xs))
  sorted-dedup xs sorted = strictly _ (IsStrictlySortedBy-dedup (on_total (λ e. e.0) o) (λ x y. refl) xs sorted)

module _ {V : Type 0} (pairs sorted : List (List ℕ × V)) (rising : IsSortedBy (below by_bytes) sorted)
    (stable : IsStableBy (below by_bytes) (reverse pairs) sorted) where
  -- the pairs that are left are sorted, with each name once
  pub sorted_pairs : IsSorted (dedup (tie by_bytes) sorted)
  sorted_pairs = is_true _ (sorted-dedup nat_list_cmp_total sorted rising)

  -- they have for each name the value of its last pair
  pub last_pairs : map_of (dedup (tie by_bytes) sorted) ≡ map.from_entries (reverse pairs)
  last_pairs = same_map nat_list_cmp_total by_bytes-IsAntisymmetric _ _ (λ q.
      get-from_sorted by_bytes _ q (sorted-dedup nat_list_cmp_total sorted rising)
      ∙ find-dedup nat_list_cmp_total q sorted
      ∙ find-stable nat_list_cmp_total q (reverse pairs) sorted stable
      ∙ sym (get-from_entries nat_list_cmp_total (reverse pairs) q))
