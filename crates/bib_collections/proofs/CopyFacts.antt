-- Facts about copies of maps by text, and about comparing maps.
use Rattle.std.proofs.Common.{◌≡◌, ℕ, Bool, ◌&&◌, List, [], ◌∷◌, refl, sym, ap, ap₂, subst, ◌∙◌, is_lt}
use Rattle.std.specs.List.{AllZip}
use Rattle.std.specs.Cmp.Lexicographic.{pointwise}
use Rattle.std.proofs.lemmas.List.Elements.{same_from_all_zip}
use Rattle.std.specs.FinMap.{is_sorted, entries, same_entries_map}
use Rattle.std.specs.FinMap.Entries.{below_all}
use Rattle.bib_collections.specs.Sorted.{ByText, by_bytes, IsSorted, map_of}
use Rattle.bib_collections.specs.TextMap.{AreClones, same_pair, same_pairs}
use Rattle.bib_collections.proofs.SortedFacts.{entries_are}

module _ {V : Type 0} (C : V → V → Type 0) where
  -- the second pair has the name of the first, and a copy of its value
  abbrev pub CopiedPair : List ℕ × V → List ℕ × V → Type 0
  CopiedPair p q = (q.0 ≡ p.0) × C p.1 q.1

  -- a text is less than all names of a copy of pairs exactly if it is less than all names of the pairs
  below_copy : (x : List ℕ) (es fs : List (List ℕ × V)) → AllZip CopiedPair es fs → below_all by_bytes x fs ≡ below_all by_bytes x es
  below_copy x [] [] z = refl
  below_copy x [] (f ∷ fs) z = absurd z
  below_copy x (e ∷ es) [] z = absurd z
  below_copy x (e ∷ es) (f ∷ fs) z = ap₂ (λ k b. is_lt (by_bytes x k) && b) z.0.0 (below_copy x es fs z.1)

  -- a copy of pairs is sorted exactly if the pairs are
  same_order : (es fs : List (List ℕ × V)) → AllZip CopiedPair es fs → is_sorted by_bytes fs ≡ is_sorted by_bytes es
  same_order [] [] z = refl
  same_order [] (f ∷ fs) z = absurd z
  same_order (e ∷ es) [] z = absurd z
  same_order (e ∷ es) (f ∷ fs) z =
      ap₂ (λ a b. a && b) (ap (λ k. below_all by_bytes k fs) z.0.0 ∙ below_copy e.0 es fs z.1) (same_order es fs z.1)

  -- a copy of sorted pairs is sorted
  pub sorted_copy : (es fs : List (List ℕ × V)) → AllZip CopiedPair es fs → IsSorted es → IsSorted fs
  sorted_copy es fs z sorted = same_order es fs z ∙ sorted

  -- the map of a copy of sorted pairs is a copy of their map
  pub map_copy : (m : ByText V) (es fs : List (List ℕ × V)) → map_of es ≡ m → IsSorted es → AllZip CopiedPair es fs
      → AreClones C m (map_of fs)
  map_copy m es fs is sorted z =
      subst (λ l. AllZip CopiedPair l (entries (map_of fs))) (sym (entries_are m es is sorted))
      (subst (λ l. AllZip CopiedPair es l) (sym (entries_are (map_of fs) fs refl (sorted_copy es fs z sorted))) z)

  -- a copy of a map equals the map if each copy of a value equals the value
  pub same_copy : ((v w : V) → C v w → w ≡ v) → (m n : ByText V) → AreClones C m n → n ≡ m
  same_copy each m n z =
      same_entries_map n m
      (same_from_all_zip CopiedPair (entries m) (entries n) z (λ p q r i. (r.0 i, each p.1 q.1 r.1 i)))

-- comparing the sorted pairs of two maps compares the maps
pub compared : {V : Type 0} (same : V → V → Bool) (m n : ByText V) (es fs : List (List ℕ × V)) → map_of es ≡ m
    → IsSorted es → map_of fs ≡ n → IsSorted fs → pointwise (same_pair same) es fs ≡ same_pairs same m n
compared same m n es fs is sorted is' sorted' =
    sym (ap₂ (pointwise (same_pair same)) (entries_are m es is sorted) (entries_are n fs is' sorted'))
