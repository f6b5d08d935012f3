-- Facts about names that entries already have.
use Rattle.std.proofs.Common.{◌≡◌, ◌⊎◌, ◌||◌, inl, inr, ℕ, zero, suc, ◌+◌, ◌<◌, Bool, true, false, List, [], ◌∷◌, ◌++◌, length, map, take, get_or, Option, Some, None, refl, sym, ap, ◌∙◌, subst, arith, append_assoc, append-nil}
use Rattle.std.specs.Prelude.{is_some, option_to_list, slice_get}
use Rattle.std.proofs.lemmas.List.{length-map, length-take-le}
use Rattle.std.proofs.lemmas.List.Folds.{list_any-append}
use Rattle.bib_syntax.specs.Grammar.{is_word}
use Rattle.bib_syntax.specs.Reading.{EntryReading}
use Rattle.bib_text.proofs.ListFacts.{some_same, mapped_more}
use Rattle.bib_text.proofs.BoolFacts.{or_turned}
use Rattle.std.proofs.Math.Bool.{or-false}
use Rattle.edit_entries.specs.NewNames.{IsNewKeyTaken, has_word, kept_names, new_keys, staying_names}
use Rattle.edit_entries.proofs.PositionFacts.{slice_get-map}

below_or_same : (j i : ℕ) → j < i + 1 → (j < i) ⊎ (j ≡ i)
below_or_same zero zero below = inr refl
below_or_same zero (suc i) below = inl (omega arith)
below_or_same (suc j) zero below = absurd (omega arith)
below_or_same (suc j) (suc i) below =
    elim (below_or_same j i (omega arith)) [
      | inl less ↦ inl (omega (arith, less))
      | inr same ↦ inr (ap suc same)
    ]

pub within_of : {B : Type 0} (xs : List B) (j : ℕ) (b : B) → slice_get xs j ≡ Some b → j < length xs
within_of [] j b here = absurd (cc)
within_of (x ∷ xs) zero b here = omega arith
within_of (x ∷ xs) (suc j) b here = let less = within_of xs j b here in omega (arith, less)

-- a property of the elements before an index and of the element there is one of the elements before the next index
pub each_more : {A B : Type 0} (P : ℕ → B → Type 0) (view : A → B) (xs : List A) (i : ℕ) (x : A) → i < length xs
    → x ≡ get_or xs i x
    → ((j : ℕ) (b : B) → j < i → slice_get (map view xs) j ≡ Some b → P j b) → P i (view x)
    → (j : ℕ) (b : B) → j < i + 1 → slice_get (map view xs) j ≡ Some b → P j b
each_more P view xs i x within is all one j b below here =
    elim (below_or_same j i below) [
      | inl less ↦ all j b less here
      | inr same ↦
          let there : slice_get (map view xs) j ≡ Some (view x) =
          ap (slice_get (map view xs)) same ∙ slice_get-map view xs i x within is in
          subst (λ y. P j y) (some_same (sym there ∙ here)) (subst (λ n. P n (view x)) (sym same) one)
    ]

-- ---- names that stay, and new keys

staying_append : (keys : ℕ → Option (List ℕ)) (index : ℕ) (xs : List EntryReading) (x : EntryReading)
    → staying_names keys index (xs ++ x ∷ []) ≡ staying_names keys index xs ++ kept_names (is_some (keys (index + length xs))) x
staying_append keys index [] x =
    let same : index ≡ index + 0 = omega arith in
    append-nil (kept_names (is_some (keys index)) x) ∙ ap (λ i. kept_names (is_some (keys i)) x) same
staying_append keys index (y ∷ ys) x =
    let same : suc index + length ys ≡ index + suc (length ys) = omega arith in
    let own : List (List ℕ) = kept_names (is_some (keys index)) y in
    let last : List (List ℕ) = kept_names (is_some (keys (index + suc (length ys)))) x in
    ap (λ l. own ++ l)
    (staying_append keys (suc index) ys x ∙ ap (λ i. staying_names keys (suc index) ys ++ kept_names (is_some (keys i)) x) same)
    ∙ sym (append_assoc own (staying_names keys (suc index) ys) last)

new_append : (keys : ℕ → Option (List ℕ)) (index : ℕ) (xs : List EntryReading) (x : EntryReading)
    → new_keys keys index (xs ++ x ∷ []) ≡ new_keys keys index xs ++ option_to_list (keys (index + length xs))
new_append keys index [] x =
    let same : index ≡ index + 0 = omega arith in
    append-nil (option_to_list (keys index)) ∙ ap (λ i. option_to_list (keys i)) same
new_append keys index (y ∷ ys) x =
    let same : suc index + length ys ≡ index + suc (length ys) = omega arith in
    let own : List (List ℕ) = option_to_list (keys index) in
    let last : List (List ℕ) = option_to_list (keys (index + suc (length ys))) in
    ap (λ l. own ++ l)
    (new_append keys (suc index) ys x ∙ ap (λ i. new_keys keys (suc index) ys ++ option_to_list (keys i)) same)
    ∙ sym (append_assoc own (new_keys keys (suc index) ys) last)

module _ {A : Type 0} (view : A → EntryReading) (keys : ℕ → Option (List ℕ)) (xs : List A) (i : ℕ) (x : A) (within : i < length xs)
    (is : x ≡ get_or xs i x) where
  taken_size : length (map view (take i xs)) ≡ i
  taken_size = length-map (take i xs) view ∙ length-take-le i xs (omega arith)

  size : 0 + length (map view (take i xs)) ≡ i
  size = omega (arith, taken_size)

  -- a name stays among some entries and one more if it is a kept name of the last one or stays among the others
  pub staying_more : (name : List ℕ) → has_word (staying_names keys 0 (map view (take (i + 1) xs))) name
      ≡ (has_word (kept_names (is_some (keys i)) (view x)) name || has_word (staying_names keys 0 (map view (take i xs))) name)
  staying_more name =
      let before : List (List ℕ) = staying_names keys 0 (map view (take i xs)) in
      let own : List (List ℕ) = kept_names (is_some (keys i)) (view x) in
      ap (λ l. has_word l name)
      (ap (staying_names keys 0) (mapped_more view xs i x within is)
      ∙ staying_append keys 0 (map view (take i xs)) (view x)
      ∙ ap (λ n. before ++ kept_names (is_some (keys n)) (view x)) size)
      ∙ list_any-append (λ w. is_word w name) before own ∙ or_turned (has_word before name) (has_word own name)

  new_more : new_keys keys 0 (map view (take (i + 1) xs)) ≡ new_keys keys 0 (map view (take i xs)) ++ option_to_list (keys i)
  new_more =
      ap (new_keys keys 0) (mapped_more view xs i x within is)
      ∙ new_append keys 0 (map view (take i xs)) (view x)
      ∙ ap (λ n. new_keys keys 0 (map view (take i xs)) ++ option_to_list (keys n)) size

  -- a name is taken after one more entry with a new key if it is this key or was taken before
  pub key_more : (staying : List (List ℕ)) (key : List ℕ) → keys i ≡ Some key → (name : List ℕ)
      → has_word (staying ++ new_keys keys 0 (map view (take (i + 1) xs))) name
      ≡ (is_word key name || has_word (staying ++ new_keys keys 0 (map view (take i xs))) name)
  key_more staying key gets name =
      let before : List (List ℕ) = new_keys keys 0 (map view (take i xs)) in
      ap (λ l. has_word (staying ++ l) name) (new_more ∙ ap (λ o. before ++ option_to_list o) gets)
      ∙ ap (λ l. has_word l name) (sym (append_assoc staying before (key ∷ [])))
      ∙ list_any-append (λ w. is_word w name) (staying ++ before) (key ∷ [])
      ∙ or_turned (has_word (staying ++ before) name) (is_word key name || false)
      ∙ ap (λ b. b || has_word (staying ++ before) name) (or-false (is_word key name))

  pub no_key_more : keys i ≡ None → new_keys keys 0 (map view (take (i + 1) xs)) ≡ new_keys keys 0 (map view (take i xs))
  no_key_more none =
      new_more ∙ ap (λ o. new_keys keys 0 (map view (take i xs)) ++ option_to_list o) none
      ∙ append-nil (new_keys keys 0 (map view (take i xs)))

-- a property of the new keys before an index and of the one there is one of the new keys before the next index
pub keys_more : (P : ℕ → List ℕ → Type 0) (keys : ℕ → Option (List ℕ)) (i : ℕ)
    → ((k : ℕ) (new : List ℕ) → k < i → keys k ≡ Some new → P k new) → ((new : List ℕ) → keys i ≡ Some new → P i new)
    → (k : ℕ) (new : List ℕ) → k < i + 1 → keys k ≡ Some new → P k new
keys_more P keys i all one k new below gets =
    elim (below_or_same k i below) [
      | inl less ↦ all k new less gets
      | inr same ↦ subst (λ n. P n new) (sym same) (one new (sym (ap keys same) ∙ gets))
    ]

-- no new key is taken if none at an index below the number of entries is
pub none_taken : (entries : List EntryReading) (keys : ℕ → Option (List ℕ))
    → ((k : ℕ) (new : List ℕ) → k < length entries → keys k ≡ Some new
    → has_word (staying_names keys 0 entries ++ new_keys keys 0 (take k entries)) new ≡ false)
    → IsNewKeyTaken entries keys → ⊥
none_taken entries keys none taken =
    let fails = none taken.index taken.new (within_of entries taken.index taken.entry taken.here) taken.gets in
    absurd (let clash : true ≡ false = sym taken.taken ∙ fails in cc)
