-- If the suffixes of a text below a number are taken, the map of the taken keys has at least that many names.
use Rattle.std.proofs.Common.{◌≡◌, ℕ, zero, suc, ◌+◌, ◌-◌, ◌*◌, ◌/◌, ◌%◌, ◌<◌, ◌≤◌, Bool, true, false, List, [], ◌∷◌, ◌++◌, length, map, drop, eqb, refl, sym, ◌∙◌, ap, subst, arith}
use Rattle.std.specs.Prelude.{String, ◌||◌, string_bytes}
use Rattle.std.specs.BTreeMap.{BTreeMap, btree_map_len, get_by_text}
use Rattle.std.specs.Char.{to_ascii_lowercase}
use Rattle.std.specs.Cmp.Lexicographic.{slice_cmp}
use Rattle.std.specs.List.{list_any}
use Rattle.std.specs.Ordering.{is_eq, nat_cmp}
use Rattle.std.specs.Str.{str_to_ascii_lowercase}
use Rattle.std.specs.declared.alloc.Global.{Global}
use Rattle.std.proofs.Math.Seq.{drop-append_seam}
use Rattle.std.proofs.lemmas.Bool.Decides.{nat_tests}
use Rattle.std.proofs.lemmas.List.{length-map, map-append}
use Rattle.std.proofs.lemmas.Map.Made.{is_some-lookup}
use Rattle.std.proofs.lemmas.Map.Steps.{le-length_from_below}
use Rattle.std.proofs.lemmas.Map.Text.{is_eq-slice_cmp}
use Rattle.std.proofs.lemmas.Slice.Eq.{bytes_eq-Decides}
use Rattle.std.specs.Map.{keys_of}
use Rattle.std.proofs.lemmas.Bool.{eq-eqb, or_right}
use Rattle.bib_text.proofs.ListFacts.{any_mapped}
use Rattle.bib_keys.specs.Keys.{IsSuffix}
use Rattle.bib_keys.specs.Taken.{AreTakenBelow}

-- the number of a suffix whose last letters are these, after letters with the number `n`
spelled : ℕ → List ℕ → ℕ
spelled n [] = n
spelled n (c ∷ letters) = spelled (26 * n + (c - 96)) letters

-- the number with one more letter at the end
spelled_more : (n c : ℕ) (letters : List ℕ) → spelled n (letters ++ (c ∷ [])) ≡ 26 * spelled n letters + (c - 96)
unfolding spelled
spelled_more n c [] = refl
spelled_more n c (d ∷ letters) = spelled_more (26 * n + (d - 96)) c letters

-- the letters of a suffix spell its number
spells_number : (n : ℕ) (letters : List ℕ) → IsSuffix n letters → spelled 0 letters ≡ n
unfolding spelled
spells_number _ _ IsSuffix.none = refl
spells_number _ _ (IsSuffix.more {n = n} {letters = letters} k small one) =
    let before : spelled 0 letters ≡ n = spells_number n letters one in
    spelled_more 0 (97 + k) letters ∙ ap (λ m. 26 * m + (97 + k - 96)) before ∙ sum n k where
      sum : (a b : ℕ) → 26 * a + (97 + b - 96) ≡ 26 * a + b + 1
      sum a b = omega arith

-- the letters of a suffix are in lower case
lower_suffix : (n : ℕ) (letters : List ℕ) → IsSuffix n letters → str_to_ascii_lowercase letters ≡ letters
lower_suffix _ _ IsSuffix.none = refl
lower_suffix _ _ (IsSuffix.more {n = n} {letters = letters} k small one) =
    map-append to_ascii_lowercase letters ((97 + k) ∷ []) ∙ ap (λ l. l ++ (to_ascii_lowercase (97 + k) ∷ [])) (lower_suffix n letters one)
    ∙ ap (λ c. letters ++ (c ∷ [])) (low (97 + k) (omega arith)) where
      low : (c : ℕ) → 96 < c → to_ascii_lowercase c ≡ c
      low c h = grind (arith, nat_tests)

-- each number has a suffix
suffix_of : (n : ℕ) → (letters : List ℕ) × IsSuffix n letters
suffix_of n = within n n (omega arith) where
  within : (most m : ℕ) → m ≤ most → (letters : List ℕ) × IsSuffix m letters
  within zero m h = ([], subst (λ x. IsSuffix x []) (zero_is m h) IsSuffix.none) where
    zero_is : (x : ℕ) → x ≤ 0 → 0 ≡ x
    zero_is x l = omega arith
  within (suc most) zero h = ([], IsSuffix.none)
  within (suc most) (suc m) h =
      let before = within most (m / 26) (omega arith) in (
        before.0 ++ ((97 + m % 26) ∷ []),
        subst (λ x. IsSuffix x (before.0 ++ ((97 + m % 26) ∷ []))) (whole m) (IsSuffix.more (m % 26) (omega arith) before.1),
      ) where
        whole : (x : ℕ) → 26 * (x / 26) + x % 26 + 1 ≡ suc x
        whole x = omega arith

-- if some element passes a test, some element passes each weaker test
any_weaker : {A : Type 0} (p q : A → Bool) → ((x : A) → p x ≡ true → q x ≡ true) → (xs : List A) → list_any p xs ≡ true
    → list_any q xs ≡ true
any_weaker p q weaker [] h = h
any_weaker p q weaker (x ∷ xs) h = of (p x) refl (weaker x) (any_weaker p q weaker xs) h where
  of : (b : Bool) → p x ≡ b → (p x ≡ true → q x ≡ true) → (list_any p xs ≡ true → list_any q xs ≡ true) → (p x || list_any p xs) ≡ true
      → (q x || list_any q xs) ≡ true
  of true is here there all = ap (λ c. c || list_any q xs) (here is)
  of false is here there all = or_right (q x) (list_any q xs) (there (sym (ap (λ c. c || list_any p xs) is) ∙ all))

-- two texts that compare as equal are equal
same_name : (a b : List ℕ) → is_eq (slice_cmp nat_cmp a b) ≡ true → a ≡ b
same_name a b h = (bytes_eq-Decides a b).0 (sym (is_eq-slice_cmp a b) ∙ h)

-- if the suffixes of a text below a number are taken, the map has at least that many names
pub number_bound : (taken : BTreeMap (String Global) ℕ) (text : List ℕ) (number : ℕ) → AreTakenBelow (get_by_text taken) text number
    → number ≤ btree_map_len taken
number_bound taken text number all =
    subst (λ n. number ≤ n) (length-map (keys_of taken.entries) name_number ∙ length-map taken.entries (λ e. e.0))
    (le-length_from_below (map name_number (keys_of taken.entries)) number (λ q below. found q below)) where
      name_number : String Global → ℕ
      name_number name = spelled 0 (drop (length text) (string_bytes name))

      found : (q : ℕ) → q < number → list_any (eqb q) (map name_number (keys_of taken.entries)) ≡ true
      found q below =
          let suffix = suffix_of q in
          let other : List ℕ = text ++ suffix.0 in
          let low : List ℕ = str_to_ascii_lowercase other in
          let is_at_low : String Global → Bool = λ k. is_eq (slice_cmp nat_cmp low (string_bytes k)) in
          let there : list_any is_at_low (keys_of taken.entries) ≡ true =
          sym (is_some-lookup is_at_low taken.entries)
          ∙ all q other below (record { suffix = suffix.0; numbered = suffix.1; is = refl }) in
          any_mapped name_number (eqb q) (keys_of taken.entries)
          ∙ any_weaker is_at_low (λ k. eqb q (name_number k))
          (λ k at. same_number q k suffix.0 suffix.1 (same_name low (string_bytes k) at))
          (keys_of taken.entries) there where
            same_number : (n : ℕ) (k : String Global) (letters : List ℕ) → IsSuffix n letters
                → str_to_ascii_lowercase (text ++ letters) ≡ string_bytes k → eqb n (spelled 0 (drop (length text) (string_bytes k))) ≡ true
            same_number n k letters is name =
                let parts : string_bytes k ≡ str_to_ascii_lowercase text ++ letters =
                sym name ∙ map-append to_ascii_lowercase text letters
                ∙ ap (λ l. str_to_ascii_lowercase text ++ l) (lower_suffix n letters is) in
                let rest : drop (length text) (string_bytes k) ≡ letters =
                ap (drop (length text)) parts
                ∙ ap (λ m. drop m (str_to_ascii_lowercase text ++ letters)) (sym (length-map text to_ascii_lowercase))
                ∙ drop-append_seam (str_to_ascii_lowercase text) letters in
                let number : spelled 0 (drop (length text) (string_bytes k)) ≡ n = ap (spelled 0) rest ∙ spells_number n letters is in
                eq-eqb n (spelled 0 (drop (length text) (string_bytes k))) (sym number)
