-- Facts about the pairs that a test keeps. The test may change their values, but not their names.
use Rattle.std.proofs.Common.{◌≡◌, Bool, true, false, cond, T, List, [], ◌∷◌, sym, ap, subst, ◌∙◌, Ordering, is_lt}
use Rattle.std.specs.List.Retain.{RetainsInTurn}
use Rattle.std.specs.Map.Calls.{RetainsPairs}
use Rattle.std.specs.FinMap.{is_sorted}
use Rattle.std.specs.FinMap.Entries.{below_all}
use Rattle.bib_collections.proofs.SortedFacts.{first, second, both}

module _ {S K X : Type 0} (R : S → K × X → Bool → S → K × X → Type 0)
    (same : (s : S) (x : K × X) (b : Bool) (t : S) (y : K × X) → R s x b t y → y.0 ≡ x.0) where
  below-retained : (cmp : K → K → Ordering) (q : K) (s : S) (xs ys : List (K × X)) → RetainsInTurn R s xs ys
      → T (below_all cmp q xs) → T (below_all cmp q ys)
  below-retained cmp q s [] ys is h = subst (λ l. T (below_all cmp q l)) (sym is) tt
  below-retained cmp q s (x ∷ xs) ys is h =
      let rest = below-retained cmp q is.1 xs is.4 is.5 (second _ _ h) in
      subst (λ l. T (below_all cmp q l)) (sym is.6) (elim is.0 as (λ b. T (below_all cmp q (cond b (is.2 ∷ is.4) is.4))) [
        | true ↦ both _ _ (subst (λ k. T (is_lt (cmp q k))) (sym (same _ _ _ _ _ is.3)) (first _ _ h)) rest
        | false ↦ rest
      ])

  -- the kept pairs of sorted pairs are sorted
  pub sorted-retained : (cmp : K → K → Ordering) (s : S) (xs ys : List (K × X)) → RetainsInTurn R s xs ys
      → T (is_sorted cmp xs) → T (is_sorted cmp ys)
  sorted-retained cmp s [] ys is h = subst (λ l. T (is_sorted cmp l)) (sym is) tt
  sorted-retained cmp s (x ∷ xs) ys is h =
      let rest = sorted-retained cmp is.1 xs is.4 is.5 (second _ _ h) in
      subst (λ l. T (is_sorted cmp l)) (sym is.6) (elim is.0 as (λ b. T (is_sorted cmp (cond b (is.2 ∷ is.4) is.4))) [
        | true ↦ both _ _
            (subst (λ k. T (below_all cmp k is.4)) (sym (same _ _ _ _ _ is.3))
            (below-retained cmp x.0 is.1 xs is.4 is.5 (first _ _ h))) rest
        | false ↦ rest
      ])

  -- a test of pairs that calls a test of names and values keeps the same pairs as the latter
  pub pairs_retained : {F : Type 0} (Q : F → K → X → Bool → X → F → Type 0) (of : S → F)
      → ((s : S) (x : K × X) (b : Bool) (t : S) (y : K × X) → R s x b t y → Q (of s) x.0 x.1 b y.1 (of t))
      → (s : S) (xs ys : List (K × X)) → RetainsInTurn R s xs ys → RetainsPairs Q (of s) xs ys
  pairs_retained Q of calls s [] ys is = is
  pairs_retained Q of calls s (x ∷ xs) ys is = (
    is.0,
    is.2.1,
    of is.1,
    is.4,
    calls _ _ _ _ _ is.3,
    pairs_retained Q of calls is.1 xs is.4 is.5,
    is.6 ∙ ap (λ k. cond is.0 ((k, is.2.1) ∷ is.4) is.4) (same _ _ _ _ _ is.3),
  )
