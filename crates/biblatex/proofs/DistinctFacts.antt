-- Checking whether keys are distinct.
use Rattle.std.proofs.Common.{◌≡◌, ℕ, zero, suc, ◌+◌, ◌-◌, ◌<◌, ◌≤◌, ◌||◌, Bool, true, false, List, [], ◌∷◌, length, map, take, drop, get_or, refl, sym, ap, ◌∙◌, subst, inl, inr, Some, arith}
use Rattle.std.specs.Prelude.{◌⊎◌, ◌↔◌, ◌≢◌, ◌==◌, IsTrue, bytes_eq}
use Rattle.std.specs.FinMap as by_name
use Rattle.std.specs.List.{IsDistinct, list_any, take-map, drop-map}
use Rattle.std.proofs.lemmas.Bool.{both_ways, cases_Bool, or_parts, eqb-true, eq-eqb}
use Rattle.std.proofs.lemmas.List.{get_or-drop, get_or-take, length-take-le, length-drop, length-map}
use Rattle.std.proofs.lemmas.List.Folds.{list_any_at}
use Rattle.std.proofs.lemmas.Map.Keys.{apart_from_distinct, IsDistinct-from_apart}
use Rattle.std.proofs.lemmas.Slice.Eq.{bytes_eq-Decides}
use Rattle.bib_text.proofs.BytesFacts.{bytes_same, bytes_turned}
use Rattle.bib_collections.specs.Sorted.{ByText}
use Rattle.bib_entry.specs.declared.entry.Entry.{Entry}
use Rattle.biblatex.specs.Distinct.{stands_elsewhere}

abbrev pub Keys' : Type 0
Keys' = List (List ℕ)

abbrev pub keys_of : List Entry → Keys'
keys_of es = map (λ e. e.key) es

-- searching for a key among entries is searching for it among their keys
pub any_key : (key : List ℕ) (es : List Entry) → list_any (λ e. bytes_eq key e.key) es ≡ list_any (bytes_eq key) (keys_of es)
any_key key [] = refl
any_key key (e ∷ es) = ap (λ b. bytes_eq key e.key || b) (any_key key es)

-- the key at an index is that of the entry at the index
pub key_at : (es : List Entry) (i : ℕ) (e : Entry) → i < length es → e ≡ get_or es i e → get_or (keys_of es) i [] ≡ e.key
key_at [] i e within is = absurd (omega arith)
key_at (x ∷ es) zero e within is = sym (ap (λ y. y.key) is)
key_at (x ∷ es) (suc i) e within is = key_at es i e (omega arith) is

-- the key at an index in range doesn't depend on the default
any_default : (keys : Keys') (i : ℕ) (c d : List ℕ) → i < length keys → get_or keys i c ≡ get_or keys i d
any_default [] i c d within = absurd (omega arith)
any_default (k ∷ keys) zero c d within = refl
any_default (k ∷ keys) (suc i) c d within = any_default keys i c d (omega arith)

-- the index of a key that passes the test
record Found (test : List ℕ → Bool) (keys : Keys') : Type 0 where
  at : ℕ
  within : at < length keys
  passes : test (get_or keys at []) ≡ true

-- if a key passes the test, there is an index of such a key
found_at : (test : List ℕ → Bool) (keys : Keys') → list_any test keys ≡ true → Found test keys
found_at test [] any = absurd (both_ways false refl any)
found_at test (k ∷ keys) any =
    elim (cases_Bool (test k)) [
      | inl passes ↦ record { at = 0; within = omega arith; passes = passes }
      | inr fails ↦
          let rest = found_at test keys (ap (λ b. b || list_any test keys) (sym fails) ∙ any) in
          record { at = suc rest.at; within = omega (arith, rest.within); passes = rest.passes }
    ]

-- if a key also occurs at another index, the keys are not distinct
pub not_distinct : (keys : Keys') (i : ℕ) → i < length keys → stands_elsewhere keys i ≡ true → IsDistinct bytes_eq keys → ⊥
not_distinct keys i within elsewhere distinct =
    elim (cases_Bool (list_any (bytes_eq (get_or keys i [])) (take i keys))) [
      | inl before ↦
          let found = found_at (bytes_eq (get_or keys i [])) (take i keys) before in
          let size : length (take i keys) ≡ i = length-take-le i keys (omega (arith, within)) in
          let low : found.at < i = omega (arith, found.within, size) in
          let same : bytes_eq (get_or keys i []) (get_or keys found.at []) ≡ true =
          ap (bytes_eq (get_or keys i [])) (sym (get_or-take i keys found.at [] low)) ∙ found.passes in
          both_ways _ (apart_from_distinct bytes_eq keys found.at i [] distinct low within)
          (bytes_turned (get_or keys found.at []) (get_or keys i []) ∙ same)
      | inr none ↦
          let following : list_any (bytes_eq (get_or keys i [])) (drop (i + 1) keys) ≡ true =
          ap (λ b. b || list_any (bytes_eq (get_or keys i [])) (drop (i + 1) keys)) (sym none) ∙ elsewhere in
          let found = found_at (bytes_eq (get_or keys i [])) (drop (i + 1) keys) following in
          let size : length (drop (i + 1) keys) ≡ length keys - (i + 1) = length-drop (i + 1) keys in
          let high : i + 1 + found.at < length keys = omega (arith, found.within, size) in
          let same : bytes_eq (get_or keys i []) (get_or keys (i + 1 + found.at) []) ≡ true =
          ap (bytes_eq (get_or keys i [])) (sym (get_or-drop (i + 1) keys found.at [])) ∙ found.passes in
          both_ways _ (apart_from_distinct bytes_eq keys i (i + 1 + found.at) [] distinct (omega arith) high) same
    ]

-- a key points to its own index, or occurs at no other index
abbrev pub IsAlone : ByText ℕ → Keys' → ℕ → Type 0
IsAlone names keys i = (by_name.get names (get_or keys i []) ≡ Some i) ⊎ (stands_elsewhere keys i ≡ false)

some_same : {i j : ℕ} → Some i ≡ Some j → i ≡ j
some_same same = cc

-- keys at different indices differ if each key is alone
apart : (names : ByText ℕ) (keys : Keys') → ((i : ℕ) → i < length keys → IsAlone names keys i) → (i j : ℕ) → i < j
    → j < length keys → bytes_eq (get_or keys i []) (get_or keys j []) ≡ false
apart names keys alone i j before within =
    elim (cases_Bool (bytes_eq (get_or keys i []) (get_or keys j []))) [
      | inr differ ↦ differ
      | inl same ↦ absurd (clash same (alone i (omega (arith, before, within))) (alone j within))
    ]
  where
    clash : bytes_eq (get_or keys i []) (get_or keys j []) ≡ true → IsAlone names keys i → IsAlone names keys j → ⊥
    clash same (inr none) second =
        let size : length (drop (i + 1) keys) ≡ length keys - (i + 1) = length-drop (i + 1) keys in
        let index : i + 1 + (j - (i + 1)) ≡ j = omega (arith, before) in
        let here : bytes_eq (get_or keys i []) (get_or (drop (i + 1) keys) (j - (i + 1)) []) ≡ true =
        ap (bytes_eq (get_or keys i []))
        (get_or-drop (i + 1) keys (j - (i + 1)) [] ∙ ap (λ n. get_or keys n []) index) ∙ same in
        let found =
        list_any_at (bytes_eq (get_or keys i [])) (drop (i + 1) keys) (j - (i + 1)) []
        (omega (arith, before, within, size)) here in
        both_ways _ (or_parts (list_any (bytes_eq (get_or keys i [])) (take i keys)) _ none).1 found
    clash same first (inr none) =
        let size : length (take j keys) ≡ j = length-take-le j keys (omega (arith, within)) in
        let here : bytes_eq (get_or keys j []) (get_or (take j keys) i []) ≡ true =
        ap (bytes_eq (get_or keys j [])) (get_or-take j keys i [] before)
        ∙ bytes_turned (get_or keys j []) (get_or keys i []) ∙ same in
        let found = list_any_at (bytes_eq (get_or keys j [])) (take j keys) i [] (omega (arith, before, size)) here in
        both_ways _ (or_parts (list_any (bytes_eq (get_or keys j [])) (take j keys)) _ none).0 found
    clash same (inl first) (inl second) =
        let indices : i ≡ j =
        some_same
        (sym first ∙ ap (by_name.get names) (bytes_same (get_or keys i []) (get_or keys j []) same) ∙ second) in
        omega (arith, before, indices)

-- keys are distinct if each of them points to its own index or occurs at no other
pub distinct : (names : ByText ℕ) (keys : Keys') → ((i : ℕ) → i < length keys → IsAlone names keys i) → IsDistinct bytes_eq keys
distinct names keys alone = IsDistinct-from_apart bytes_eq keys (λ i j d before within.
    let low : i < length keys = omega (arith, before, within) in
    ap (λ k. bytes_eq k (get_or keys j d)) (any_default keys i d [] low)
    ∙ ap (bytes_eq (get_or keys i [])) (any_default keys j d [] within) ∙ apart names keys alone i j before within)

-- the searches before and after an index together decide whether the key at the index occurs at another
pub elsewhere_found : (es : List Entry) (i : ℕ) (e : Entry) (before following : Bool) → i < length es → e ≡ get_or es i e
    → before ≡ list_any (λ x. bytes_eq e.key x.key) (take i es) → following ≡ list_any (λ x. bytes_eq e.key x.key) (drop (i + 1) es)
    → before || following ≡ stands_elsewhere (keys_of es) i
elsewhere_found es i e before following within is first second =
    ap (λ b. b || following) (first ∙ any_key e.key (take i es) ∙ ap (list_any (bytes_eq e.key)) (sym (take-map (λ x. x.key) i es)))
    ∙ ap (λ b. list_any (bytes_eq e.key) (take i (keys_of es)) || b)
    (second ∙ any_key e.key (drop (i + 1) es)
    ∙ ap (list_any (bytes_eq e.key)) (sym (drop-map (λ x. x.key) (i + 1) es)))
    ∙ ap (λ k. list_any (bytes_eq k) (take i (keys_of es)) || list_any (bytes_eq k) (drop (i + 1) (keys_of es)))
    (sym (key_at es i e within is))

-- a key that occurs before its index occurs at another index
pub found_before : (es : List Entry) (i : ℕ) (e : Entry) (before : Bool) → i < length es → e ≡ get_or es i e
    → before ≡ list_any (λ x. bytes_eq e.key x.key) (take i es) → before ≡ true
    → before ≡ stands_elsewhere (keys_of es) i
found_before es i e before within is first passes =
    let following = list_any (λ x. bytes_eq e.key x.key) (drop (i + 1) es) in
    passes ∙ ap (λ b. b || following) (sym passes) ∙ elsewhere_found es i e before following within is first refl

-- a key that doesn't occur before its index occurs at another index exactly if it occurs after it
pub found_after : (es : List Entry) (i : ℕ) (e : Entry) (before following : Bool) → i < length es → e ≡ get_or es i e
    → before ≡ list_any (λ x. bytes_eq e.key x.key) (take i es) → before ≡ false
    → following ≡ list_any (λ x. bytes_eq e.key x.key) (drop (i + 1) es)
    → following ≡ stands_elsewhere (keys_of es) i
found_after es i e before following within is first fails second =
    ap (λ b. b || following) (sym fails) ∙ elsewhere_found es i e before following within is first second

-- if all indices below `n` and `n` itself are alone, so are all below `n + 1`
pub alone_next : (names : ByText ℕ) (keys : Keys') (n : ℕ) → ((i : ℕ) → i < n → IsAlone names keys i)
    → IsAlone names keys n → (i : ℕ) → i < n + 1 → IsAlone names keys i
alone_next names keys n all one i below =
    elim (cases_Bool (i == n)) [
      | inl same ↦ subst (IsAlone names keys) (sym (eqb-true i n same)) one
      | inr differs ↦
          let other : i ≢ n = λ same. both_ways _ differs (eq-eqb i n same) in
          all i (omega (arith, below, other))
    ]

-- a key that points to its own index is alone
pub points : (names : ByText ℕ) (es : List Entry) (i : ℕ) (e : Entry) → i < length es → e ≡ get_or es i e
    → by_name.get names e.key ≡ Some i → IsAlone names (keys_of es) i
points names es i e within is here = inl (ap (by_name.get names) (key_at es i e within is) ∙ here)

-- if each index of the entries is alone, the keys are distinct
pub all_alone : (names : ByText ℕ) (es : List Entry) (n : ℕ) → ((i : ℕ) → i < n → IsAlone names (keys_of es) i)
    → length es ≤ n → IsTrue true ↔ IsDistinct bytes_eq (keys_of es)
all_alone names es n all whole =
    let size : length (keys_of es) ≡ length es = length-map es (λ x. x.key) in
    ((λ yes. distinct names (keys_of es) (λ i within. all i (omega (arith, within, size, whole)))), (λ d. refl))
