-- Facts about names and the indices that they point to.
use Rattle.std.proofs.Common.{◌≡◌, ℕ, ◌<◌, ◌-◌, arith, Bool, true, false, cond, T, List, [], ◌∷◌, ◌++◌, Option, Some, None, refl, sym, ap, subst, ◌∙◌, MatchBool, Equal, Ordering, is_eq, option_map, option_and_then, filter_map}
use Rattle.std.proofs.lemmas.Bool.Decides.{nat_tests}
use Rattle.std.specs.List.{cons_option}
use Rattle.std.specs.List.Retain.{RetainsInTurn}
use Rattle.std.specs.Cmp.{IsTotalOrder}
use Rattle.std.specs.Ordering.{eq_by_cmp}
use Rattle.std.proofs.lemmas.Cmp.{nat_list_cmp_total}
use Rattle.std.specs.FinMap as map
use Rattle.std.specs.FinMap.{find, is_sorted, get-from_sorted, get-entries, entries_sorted}
use Rattle.std.specs.FinMap.Entries.{below_all}
use Rattle.bib_collections.specs.Sorted.{ByText, by_bytes, IsSorted, map_of}
use Rattle.bib_collections.specs.Names.{with_claims, claims_for, index_after_removal, moved_pair, without_index}
use Rattle.bib_collections.proofs.SortedFacts.{first, second, both, less, tied, holds, is_true, entries_are}

-- claiming names and one more name is claiming the names and then inserting the last one
pub claimed_next : (names : ByText ℕ) (index : ℕ) (done : List (List ℕ)) (name : List ℕ)
    → with_claims names (claims_for (done ++ name ∷ []) index)
    ≡ map.insert (with_claims names (claims_for done index)) name index
claimed_next names index [] name = refl
claimed_next names index (d ∷ done) name = claimed_next (map.insert names d index) index done name

-- keeping or dropping an element by a flag is the same as by an option with or without it
kept_or_dropped : {X : Type 0} (b : Bool) (o : Option X) (y : X) (zs : List X) → MatchBool b (o ≡ Some y) (o ≡ None)
    → cond b (y ∷ zs) zs ≡ cons_option o zs
kept_or_dropped true o y zs is = ap (λ p. cons_option p zs) (sym is)
kept_or_dropped false o y zs is = ap (λ p. cons_option p zs) (sym is)

-- a closure that keeps or drops each element by the function `h` leaves the elements of `filter_map`
pub retained : {S X : Type 0} (R : S → X → Bool → S → X → Type 0) (h : X → Option X) (s : S)
    → ((x : X) (b : Bool) (t : S) (y : X) → R s x b t y → MatchBool b (h x ≡ Some y) (h x ≡ None) × (t ≡ s))
    → (xs ys : List X) → RetainsInTurn R s xs ys → ys ≡ filter_map h xs
retained R h s step [] ys is = is
retained R h s step (x ∷ xs) ys is =
    let one = step x is.0 is.1 is.2 is.3 in
    is.6
    ∙ ap (λ l. cond is.0 (is.2 ∷ l) l) (retained R h s step xs is.4 (subst (λ t. RetainsInTurn R t xs is.4) one.1 is.5))
    ∙ kept_or_dropped is.0 (h x) is.2 (filter_map h xs) one.0

-- the pair with the value that `f` returns for its value, or none if `f` returns none
abbrev pub revalue : {K X Y : Type 0} → (X → Option Y) → K × X → Option (K × Y)
revalue f e = option_map (λ v. (e.0, v)) (f e.1)

module _ {K X Y : Type 0} (R : K → K → Ordering) (f : X → Option Y) where
  below-revalued : (x : K) (es : List (K × X)) → T (below_all R x es) → T (below_all R x (filter_map (revalue f) es))
  below-revalued x [] h = tt
  below-revalued x (e ∷ es) h =
      let rest = below-revalued x es (second _ _ h) in
      elim (f e.1) as (λ o. T (below_all R x (cons_option (option_map (λ v. (e.0, v)) o) (filter_map (revalue f) es))))
      [ None ↦ rest | Some v ↦ both _ _ (first _ _ h) rest ]

  -- pairs stay sorted if some get other values and the others are removed
  pub sorted-revalued : (es : List (K × X)) → T (is_sorted R es) → T (is_sorted R (filter_map (revalue f) es))
  sorted-revalued [] h = tt
  sorted-revalued (e ∷ es) h =
      let rest = sorted-revalued es (second _ _ h) in
      elim (f e.1) as (λ o. T (is_sorted R (cons_option (option_map (λ v. (e.0, v)) o) (filter_map (revalue f) es))))
      [ None ↦ rest | Some v ↦ both _ _ (below-revalued e.0 es (first _ _ h)) rest ]

  module _ (o : IsTotalOrder R) where
    absent : (q x : K) (es : List (K × Y)) → R q x ≡ Equal → T (below_all R x es) → find R q es ≡ None
    absent q x [] same h = refl
    absent q x (e ∷ es) same h =
        ap (λ r. cond (is_eq r) (Some e.1) (find R q es)) (o.congr q x e.0 same ∙ less _ (first _ _ h)) ∙ absent q x es same (second _ _ h)

    pub find-revalued : (q : K) (es : List (K × X)) → T (is_sorted R es)
        → find R q (filter_map (revalue f) es) ≡ option_and_then f (find R q es)
    find-revalued q [] h = refl
    find-revalued q (e ∷ es) h =
        let rest = find-revalued q es (second _ _ h) in
        elim (eq_by_cmp R q e.0) as
        (λ b.
        eq_by_cmp R q e.0 ≡ b
        → find R q (cons_option (revalue f e) (filter_map (revalue f) es))
        ≡ option_and_then f (cond b (Some e.1) (find R q es))) [
          | true ↦ λ same. elim (f e.1) as (λ v. find R q (cons_option (option_map (λ v. (e.0, v)) v) (filter_map (revalue f) es)) ≡ v) [
            | None ↦ absent q e.0 (filter_map (revalue f) es) (tied _ (subst T (sym same) tt)) (below-revalued e.0 es (first _ _ h))
            | Some v ↦ ap (λ b. cond b (Some v) (find R q (filter_map (revalue f) es))) same
          ]
          | false ↦
              λ other.
              elim (f e.1) as
              (λ v.
              find R q (cons_option (option_map (λ v. (e.0, v)) v) (filter_map (revalue f) es))
              ≡ option_and_then f (find R q es)) [
                | None ↦ rest
                | Some v ↦ ap (λ b. cond b (Some v) (find R q (filter_map (revalue f) es))) other ∙ rest
              ]
        ] refl

-- sorted pairs after the removal of an index are sorted
pub moved_sorted : (taken : ℕ) (es : List (List ℕ × ℕ)) → IsSorted es → IsSorted (filter_map (moved_pair taken) es)
moved_sorted taken es sorted = is_true _ (sorted-revalued by_bytes (index_after_removal taken) es (holds _ sorted))

-- the map of sorted pairs after the removal of an index is their map without that index
pub moved_names : (taken : ℕ) (m : ByText ℕ) (es : List (List ℕ × ℕ)) → map_of es ≡ m → IsSorted es
    → map_of (filter_map (moved_pair taken) es) ≡ without_index m taken
moved_names taken m es is sorted = ap (λ l. map_of (filter_map (moved_pair taken) l)) (sym (entries_are m es is sorted))

-- the index of a name after an index is removed
pub get-without_index : (taken : ℕ) (m : ByText ℕ) (q : List ℕ)
    → map.get (without_index m taken) q ≡ option_and_then (index_after_removal taken) (map.get m q)
get-without_index taken m q =
    get-from_sorted by_bytes _ q (sorted-revalued by_bytes (index_after_removal taken) (map.entries m) (entries_sorted m))
    ∙ find-revalued by_bytes (index_after_removal taken) nat_list_cmp_total q (map.entries m) (entries_sorted m)
    ∙ ap (option_and_then (index_after_removal taken)) (sym (get-entries m q))

-- a pair with an index greater than the removed one gets an index lower by 1
pub moved_lower : (taken : ℕ) (pair : List ℕ × ℕ) → (pair.1 ≡ taken → ⊥) → taken < pair.1
    → moved_pair taken pair ≡ Some (pair.0, pair.1 - 1)
moved_lower taken pair other greater = grind (arith, nat_tests)
