-- The part of a list that a loop still has to visit.
use Rattle.std.proofs.Common.{◌≡◌, ℕ, ◌+◌, ◌<◌, List, ◌∷◌, ◌++◌, length, map, drop, get_or, sym, ap, ◌∙◌, subst, append_assoc}
use Rattle.std.specs.List.{AllByRecursion, flat_map}
use Rattle.std.proofs.lemmas.List.{drop_more}

module _ {A B : Type 0} (view : A → B) (xs : List A) (i : ℕ) (x : A) (within : i < length xs) (is : x ≡ get_or xs i x) where
  pub left : map view (drop i xs) ≡ view x ∷ map view (drop (i + 1) xs)
  left = ap (map view) (drop_more xs i x within ∙ ap (λ y. y ∷ drop (i + 1) xs) (sym is))

  -- after the results of one more item were appended, those of the rest complete the list
  pub flat_step : {C : Type 0} (each : B → List C) (old new all : List C) → new ≡ old ++ each (view x)
      → old ++ flat_map each (map view (drop i xs)) ≡ all → new ++ flat_map each (map view (drop (i + 1) xs)) ≡ all
  flat_step each old new all added so_far =
      ap (λ l. l ++ flat_map each (map view (drop (i + 1) xs))) added
      ∙ append_assoc old (each (view x)) (flat_map each (map view (drop (i + 1) xs)))
      ∙ ap (λ l. old ++ flat_map each l) (sym left) ∙ so_far

  -- if all items still to visit have a property, so do the next one and those after it
  pub all_step : (P : B → Type 0) → AllByRecursion P (map view (drop i xs)) → P (view x) × AllByRecursion P (map view (drop (i + 1) xs))
  all_step P all = let cut = subst (AllByRecursion P) left all in (cut.0, cut.1)
