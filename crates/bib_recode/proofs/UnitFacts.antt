-- Facts about units of UTF-16.
use Rattle.std.proofs.Common.{◌≡◌, ◌+◌, ◌<◌, ◌≤◌, ℕ, Bool, true, false, not, cond, Some, List, [], ◌∷◌, ◌++◌, drop, length, take, refl, sym, ap, ◌∙◌, arith, length-drop}
use Rattle.std.specs.Prelude.{◌&&◌, ◌||◌, is_some}
use Rattle.std.specs.List.{list_any}
use Rattle.std.specs.Char.Utf16.{has_unpaired_surrogate, is_high_surrogate, is_low_surrogate, lone_unit_char, surrogate_pair_char, utf16_chars}
use Rattle.std.proofs.Math.Seq.{take-append-add}
use Rattle.std.proofs.lemmas.List.{length-take-le, take-append-drop}
use Rattle.std.proofs.lemmas.Bool.{cases_Bool, true≢false}
use Rattle.std.proofs.lemmas.Bool.Decides.{nat_tests}
use Rattle.std.proofs.Common.{inl, inr, Option}
use Rattle.bib_text.proofs.BoolFacts.{or_false_left, or_false_right}
use Rattle.bib_recode.specs.Units.{begins_unpaired, character_len, is_surrogate_pair, is_surrogate}

is_lone : (u : ℕ) → not (is_some (lone_unit_char u)) ≡ is_surrogate u
is_lone u = grind (arith, nat_tests)

chars_pair : (u v : ℕ) (us : List ℕ) → is_surrogate_pair u v ≡ true
    → utf16_chars (u ∷ v ∷ us) ≡ Some (surrogate_pair_char u v) ∷ utf16_chars us
unfolding utf16_chars
chars_pair u v us is =
    ap (λ b. cond b (Some (surrogate_pair_char u v) ∷ utf16_chars us) (lone_unit_char u ∷ utf16_chars (v ∷ us))) is

chars_lone : (u v : ℕ) (us : List ℕ) → is_surrogate_pair u v ≡ false → utf16_chars (u ∷ v ∷ us) ≡ lone_unit_char u ∷ utf16_chars (v ∷ us)
unfolding utf16_chars
chars_lone u v us is =
    ap (λ b. cond b (Some (surrogate_pair_char u v) ∷ utf16_chars us) (lone_unit_char u ∷ utf16_chars (v ∷ us))) is

or_false : (b : Bool) → b || false ≡ b
or_false true = refl
or_false false = refl

pub has_none : has_unpaired_surrogate [] ≡ false
unfolding utf16_chars
has_none = refl

has_one : (u : ℕ) → has_unpaired_surrogate (u ∷ []) ≡ is_surrogate u
unfolding utf16_chars
has_one u = or_false (not (is_some (lone_unit_char u))) ∙ is_lone u

has_pair : (u v : ℕ) (us : List ℕ) → is_surrogate_pair u v ≡ true → has_unpaired_surrogate (u ∷ v ∷ us) ≡ has_unpaired_surrogate us
has_pair u v us is = ap (list_any (λ (o : Option ℕ). not (is_some o))) (chars_pair u v us is)

has_lone : (u v : ℕ) (us : List ℕ) → is_surrogate_pair u v ≡ false
    → has_unpaired_surrogate (u ∷ v ∷ us) ≡ (is_surrogate u || has_unpaired_surrogate (v ∷ us))
has_lone u v us is =
    ap (list_any (λ (o : Option ℕ). not (is_some o))) (chars_lone u v us is)
    ∙ ap (λ b. b || has_unpaired_surrogate (v ∷ us)) (is_lone u)

left_false : (a b c : Bool) → (a || b) ≡ false → (a && c) ≡ false
left_false true b c h = absurd (true≢false h)
left_false false b c h = refl

no_pair : (u v : ℕ) → is_surrogate u ≡ false → is_surrogate_pair u v ≡ false
no_pair u v h = left_false (is_high_surrogate u) (is_low_surrogate u) (is_low_surrogate v) h

-- prepending units without an unpaired surrogate doesn't change whether there is one
complete : (xs ys : List ℕ) → has_unpaired_surrogate xs ≡ false → has_unpaired_surrogate (xs ++ ys) ≡ has_unpaired_surrogate ys
complete [] ys h = refl
complete (u ∷ []) [] h = h ∙ sym has_none
complete (u ∷ []) (y ∷ ys) h =
    let plain = sym (has_one u) ∙ h in
    has_lone u y ys (no_pair u y plain) ∙ ap (λ b. b || has_unpaired_surrogate (y ∷ ys)) plain
complete (u ∷ v ∷ us) ys h =
    elim (cases_Bool (is_surrogate_pair u v)) [
      | inl pair ↦
          has_pair u v (us ++ ys) pair ∙ complete us ys (sym (has_pair u v us pair) ∙ h)
      | inr lone ↦
          let both = sym (has_lone u v us lone) ∙ h in
          has_lone u v (us ++ ys) lone
          ∙ ap (λ b. b || has_unpaired_surrogate (v ∷ us ++ ys)) (or_false_left (is_surrogate u) (has_unpaired_surrogate (v ∷ us)) both)
          ∙ complete (v ∷ us) ys (or_false_right (is_surrogate u) (has_unpaired_surrogate (v ∷ us)) both)
    ]

and_true : (a b : Bool) → b ≡ false → (a && not b) ≡ false → a ≡ false
and_true true b is h = absurd (true≢false (sym (ap not is) ∙ h))
and_true false b is h = refl

-- the units of the first character have no unpaired surrogate, unless the first unit is one
step : (xs : List ℕ) → begins_unpaired xs ≡ false → has_unpaired_surrogate (take (character_len xs) xs) ≡ false
step [] h = has_none
step (u ∷ []) h = has_one u ∙ h
step (u ∷ v ∷ us) h =
    elim (cases_Bool (is_surrogate_pair u v)) [
      | inl pair ↦
          ap (λ b. has_unpaired_surrogate (take (cond b 2 1) (u ∷ v ∷ us))) pair ∙ has_pair u v [] pair ∙ has_none
      | inr lone ↦
          ap (λ b. has_unpaired_surrogate (take (cond b 2 1) (u ∷ v ∷ us))) lone ∙ has_one u
          ∙ and_true (is_surrogate u) (is_surrogate_pair u v) lone h
    ]

len_within : (xs : List ℕ) → 0 < length xs → character_len xs ≤ length xs
len_within [] p = absurd (omega arith)
len_within (u ∷ []) p = omega arith
len_within (u ∷ v ∷ us) p = both (is_surrogate_pair u v)
  where
    both : (b : Bool) → cond b 2 1 ≤ length (u ∷ v ∷ us)
    both true = omega arith
    both false = omega arith

-- a character has at least one unit
pub len_some : (xs : List ℕ) → 1 ≤ character_len xs
len_some [] = omega arith
len_some (u ∷ []) = omega arith
len_some (u ∷ v ∷ us) = both (is_surrogate_pair u v)
  where
    both : (b : Bool) → 1 ≤ cond b 2 1
    both true = omega arith
    both false = omega arith

take_plus : (n k : ℕ) (xs : List ℕ) → n ≤ length xs → take (n + k) xs ≡ take n xs ++ take k (drop n xs)
take_plus n k xs within =
    let size : n ≡ length (take n xs) = sym (length-take-le n xs within) in
    sym (ap (take (n + k)) (take-append-drop n xs)) ∙ ap (λ m. take (m + k) (take n xs ++ drop n xs)) size
    ∙ take-append-add (take n xs) (drop n xs) k

-- the character from an index on ends within the units
pub next_within : (xs : List ℕ) (n : ℕ) → n < length xs → n + character_len (drop n xs) ≤ length xs
next_within xs n within =
    let size = length-drop n xs in
    let small = len_within (drop n xs) (omega (arith, size)) in
    omega (arith, size, small)

-- if the first `n` units spell characters and no unpaired surrogate follows, the units up to the end of the next character do too
pub next_complete : (xs : List ℕ) (n : ℕ) → n < length xs → has_unpaired_surrogate (take n xs) ≡ false → begins_unpaired (drop n xs) ≡ false
    → has_unpaired_surrogate (take (n + character_len (drop n xs)) xs) ≡ false
next_complete xs n within before starts =
    ap has_unpaired_surrogate (take_plus n (character_len (drop n xs)) xs (omega arith))
    ∙ complete (take n xs) (take (character_len (drop n xs)) (drop n xs)) before ∙ step (drop n xs) starts
