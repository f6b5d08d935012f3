-- The loop over a list that adds the results for each element and its index.
use Rattle.std.proofs.Common.{◌≡◌, ℕ, suc, ◌+◌, ◌<◌, ◌≤◌, List, ◌∷◌, ◌++◌, length, map, drop, get_or, sym, ap, ◌∙◌, append_assoc, append-nil, arith}
use Rattle.std.proofs.lemmas.List.{drop_all, drop_more}
use Rattle.edit_convert.specs.Notes.{indexed}

module _ {A B C : Type 0} (view : A → B) (each : ℕ → B → List C) (xs : List A) (i : ℕ) where
  -- after the results for one more element are added, the results so far and those for the elements after it are those for all
  pub indexed_step : (x : A) (within : i < length xs) (is : x ≡ get_or xs i x) (old new all : List C)
      → new ≡ old ++ each i (view x) → old ++ indexed each i (map view (drop i xs)) ≡ all
      → new ++ indexed each (i + 1) (map view (drop (i + 1) xs)) ≡ all
  indexed_step x within is old new all added so_far =
      let rest : List B = map view (drop (i + 1) xs) in
      let left : map view (drop i xs) ≡ view x ∷ rest = ap (map view) (drop_more xs i x within ∙ ap (λ y. y ∷ drop (i + 1) xs) (sym is)) in
      let next : i + 1 ≡ suc i = omega arith in
      ap (λ l. l ++ indexed each (i + 1) rest) added ∙ append_assoc old (each i (view x)) (indexed each (i + 1) rest)
      ∙ ap (λ n. old ++ (each i (view x) ++ indexed each n rest)) next
      ∙ ap (λ l. old ++ indexed each i l) (sym left) ∙ so_far

  -- after the last element, the results so far are those for all elements
  pub indexed_end : (old all : List C) → length xs ≤ i → old ++ indexed each i (map view (drop i xs)) ≡ all → old ≡ all
  indexed_end old all past so_far = sym (append-nil old) ∙ ap (λ l. old ++ indexed each i (map view l)) (sym (drop_all i xs past)) ∙ so_far
