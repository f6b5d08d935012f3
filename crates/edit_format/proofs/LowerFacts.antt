-- Names with their ASCII letters in lowercase.
use Rattle.std.proofs.Common.{◌≡◌, inl, inr, ℕ, ◌+◌, ◌/◌, ◌≤◌, Bool, true, false, cond, List, [], ◌∷◌, ◌++◌, map, ltb, refl, sym, ap, ◌∙◌, subst, arith}
use Rattle.std.specs.Prelude.{encode_utf8, bytes_eq}
use Rattle.std.specs.Char.{is_ascii_uppercase, to_ascii_lowercase}
use Rattle.std.specs.List.{list_any}
use Rattle.std.specs.Str.{str_to_ascii_lowercase}
use lib.Utf8.{encode, next}
use Rattle.std.proofs.lemmas.Bool.{ltb-true, cases_lt, or_parts}
use Rattle.std.proofs.lemmas.Bool.Decides.{nat_tests}
use Rattle.std.proofs.lemmas.List.{map-append}
use Rattle.std.proofs.lemmas.Str.{encode_ascii}
use Rattle.std.proofs.lemmas.Str.Ascii.{lowercase_ascii, lowercase_is, lowercase-lowercase}
use Rattle.bib_syntax.specs.Characters.{is_id_continue, is_id_start}
use Rattle.bib_syntax.specs.Grammar.{BlockKind, block_kind}

pub lower_lower : (xs : List ℕ) → str_to_ascii_lowercase (str_to_ascii_lowercase xs) ≡ str_to_ascii_lowercase xs
lower_lower [] = refl
lower_lower (x ∷ xs) =
    ap (λ y. y ∷ str_to_ascii_lowercase (str_to_ascii_lowercase xs)) (lowercase-lowercase x)
    ∙ ap (λ ys. to_ascii_lowercase x ∷ ys) (lower_lower xs)

pub lower_append : (xs ys : List ℕ) → str_to_ascii_lowercase (xs ++ ys) ≡ str_to_ascii_lowercase xs ++ str_to_ascii_lowercase ys
lower_append xs ys = map-append to_ascii_lowercase xs ys

-- a character that is no ASCII capital stays
small_stays : (c : ℕ) → is_ascii_uppercase c ≡ false → to_ascii_lowercase c ≡ c
small_stays c is = by_low (ltb c 65) refl
  where
    above : (b : Bool) → ltb 90 c ≡ b → (ltb c 65 ≡ false) → to_ascii_lowercase c ≡ c
    above true high low = (lowercase_is c).2 (grind (arith, nat_tests, high))
    above false high low = absurd (grind (arith, nat_tests, is, high, low))

    by_low : (b : Bool) → ltb c 65 ≡ b → to_ascii_lowercase c ≡ c
    by_low true low = (lowercase_is c).1 (grind (arith, nat_tests, low))
    by_low false low = above (ltb 90 c) refl low

-- a text without an ASCII capital is in ASCII lowercase
pub lower_same : (xs : List ℕ) → list_any is_ascii_uppercase xs ≡ false → str_to_ascii_lowercase xs ≡ xs
lower_same [] none = refl
lower_same (x ∷ xs) none =
    let both = or_parts (is_ascii_uppercase x) (list_any is_ascii_uppercase xs) none in
    ap (λ y. y ∷ str_to_ascii_lowercase xs) (small_stays x both.0) ∙ ap (λ ys. x ∷ ys) (lower_same xs both.1)

-- the kind of a block is the same for its name in ASCII lowercase
pub kind_lower : (name : List ℕ) → block_kind (str_to_ascii_lowercase name) ≡ block_kind name
kind_lower name = ap kind_by (lower_lower name)
  where
    kind_by : List ℕ → BlockKind
    kind_by lower =
        cond (bytes_eq lower (str_to_ascii_lowercase (99 ∷ 111 ∷ 109 ∷ 109 ∷ 101 ∷ 110 ∷ 116 ∷ []))) BlockKind.comment
        (cond (bytes_eq lower (str_to_ascii_lowercase (112 ∷ 114 ∷ 101 ∷ 97 ∷ 109 ∷ 98 ∷ 108 ∷ 101 ∷ []))) BlockKind.preamble
        (cond (bytes_eq lower (str_to_ascii_lowercase (115 ∷ 116 ∷ 114 ∷ 105 ∷ 110 ∷ 103 ∷ []))) BlockKind.strings BlockKind.entry))

-- ---- characters

high_stays : (b : ℕ) → 128 ≤ b → to_ascii_lowercase b ≡ b
high_stays b high = (lowercase_is b).2 (omega arith)

bytes_stay : (x y z : Bool) (c i j k n m l : ℕ) → (x ≡ true → ⊥)
    → map to_ascii_lowercase
    (cond x (c ∷ [])
    (cond y ((192 + i) ∷ next n ∷ [])
    (cond z ((224 + j) ∷ next m ∷ next n ∷ []) ((240 + k) ∷ next l ∷ next m ∷ next n ∷ []))))
    ≡ cond x (c ∷ [])
    (cond y ((192 + i) ∷ next n ∷ [])
    (cond z ((224 + j) ∷ next m ∷ next n ∷ []) ((240 + k) ∷ next l ∷ next m ∷ next n ∷ [])))
bytes_stay true y z c i j k n m l high = absurd (high refl)
bytes_stay false true z c i j k n m l high =
    ap (λ a. a ∷ to_ascii_lowercase (next n) ∷ []) (high_stays (192 + i) (omega arith))
    ∙ ap (λ a. (192 + i) ∷ a ∷ []) (high_stays (next n) (omega arith))
bytes_stay false false true c i j k n m l high =
    ap (λ a. a ∷ to_ascii_lowercase (next m) ∷ to_ascii_lowercase (next n) ∷ []) (high_stays (224 + j) (omega arith))
    ∙ ap (λ a. (224 + j) ∷ a ∷ to_ascii_lowercase (next n) ∷ []) (high_stays (next m) (omega arith))
    ∙ ap (λ a. (224 + j) ∷ next m ∷ a ∷ []) (high_stays (next n) (omega arith))
bytes_stay false false false c i j k n m l high =
    ap (λ a. a ∷ to_ascii_lowercase (next l) ∷ to_ascii_lowercase (next m) ∷ to_ascii_lowercase (next n) ∷ [])
    (high_stays (240 + k) (omega arith))
    ∙ ap (λ a. (240 + k) ∷ a ∷ to_ascii_lowercase (next m) ∷ to_ascii_lowercase (next n) ∷ []) (high_stays (next l) (omega arith))
    ∙ ap (λ a. (240 + k) ∷ next l ∷ a ∷ to_ascii_lowercase (next n) ∷ []) (high_stays (next m) (omega arith))
    ∙ ap (λ a. (240 + k) ∷ next l ∷ next m ∷ a ∷ []) (high_stays (next n) (omega arith))

encode_stays : (c : ℕ) → 128 ≤ c → str_to_ascii_lowercase (encode_utf8 c) ≡ encode_utf8 c
unfolding encode
encode_stays c high =
    bytes_stay (ltb c 128) (ltb c 2048) (ltb c 65536) c (c / 64) (c / 4096) (c / 262144) c (c / 64) (c / 4096)
    (λ is. omega (arith, ltb-true c 128 is, high))

pub encode_lower : (c : ℕ) → str_to_ascii_lowercase (encode_utf8 c) ≡ encode_utf8 (to_ascii_lowercase c)
encode_lower c =
    elim (cases_lt c 128) [
      | inl small ↦ ap str_to_ascii_lowercase (encode_ascii c small) ∙ sym (encode_ascii (to_ascii_lowercase c) (lowercase_ascii c small))
      | inr high ↦ encode_stays c high ∙ ap encode_utf8 (sym (high_stays c high))
    ]

letter_continues : (c : ℕ) → 97 ≤ c → c ≤ 122 → is_id_continue c ≡ true
letter_continues c from to = grind (arith, nat_tests)

letter_starts : (c : ℕ) → 97 ≤ c → c ≤ 122 → is_id_start c ≡ true
letter_starts c from to = grind (arith, nat_tests)

lower_cases : (P : ℕ → Type 0) (c : ℕ) → P c → ((d : ℕ) → 97 ≤ d → d ≤ 122 → P d) → P (to_ascii_lowercase c)
lower_cases P c is letter =
    elim (cases_lt c 65) [
      | inl below ↦ subst P (sym ((lowercase_is c).1 below)) is
      | inr from ↦ elim (cases_lt 90 c) [
        | inl above ↦ subst P (sym ((lowercase_is c).2 above)) is
        | inr to ↦ subst P (sym ((lowercase_is c).0 (from, to))) (letter (c + 32) (omega arith) (omega arith))
      ]
    ]

pub continues_lower : (c : ℕ) → is_id_continue c ≡ true → is_id_continue (to_ascii_lowercase c) ≡ true
continues_lower c is = lower_cases (λ d. is_id_continue d ≡ true) c is letter_continues

pub starts_lower : (c : ℕ) → is_id_start c ≡ true → is_id_start (to_ascii_lowercase c) ≡ true
starts_lower c is = lower_cases (λ d. is_id_start d ≡ true) c is letter_starts
