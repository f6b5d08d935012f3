-- The number of characters of a name in ASCII lowercase.
use Rattle.std.proofs.Common.{◌≡◌, inl, inr, ℕ, zero, suc, ◌+◌, ◌-◌, ◌*◌, ◌<◌, Bool, true, false, cond, List, [], ◌∷◌, length, refl, ap, ◌∙◌, arith}
use Rattle.std.specs.Prelude.{nat_lt}
use Rattle.std.specs.Char.{to_ascii_lowercase}
use Rattle.std.specs.Str.{chars, chars_after, continuation_len, lead_bits, str_to_ascii_lowercase}
use Rattle.std.proofs.lemmas.Bool.{cases_lt, lt-ltb}
use Rattle.std.proofs.lemmas.Str.Ascii.{lowercase_is}

-- a byte and its ASCII lowercase announce the same number of continuation bytes
same_continuation : (b : ℕ) → continuation_len (to_ascii_lowercase b) ≡ continuation_len b
same_continuation b =
    elim (cases_lt b 65) [
      | inl below ↦ ap continuation_len ((lowercase_is b).1 below)
      | inr from ↦ elim (cases_lt 90 b) [
        | inl above ↦ ap continuation_len ((lowercase_is b).2 above)
        | inr to ↦ ap continuation_len ((lowercase_is b).0 (from, to))
            ∙ by_tests (nat_lt (b + 32) 128) (nat_lt b 128) _ _ (small (b + 32) (omega arith)) (small b (omega arith))
      ]
    ]
  where
    small : (c : ℕ) → c < 128 → nat_lt c 128 ≡ true
    small c below = lt-ltb c 128 below

    by_tests : (x y : Bool) (n m : ℕ) → x ≡ true → y ≡ true → cond x 0 n ≡ cond y 0 m
    by_tests true true n m first second = refl
    by_tests false y n m first second = absurd (cc)
    by_tests true false n m first second = absurd (cc)

after_lower : (n c d : ℕ) (bs : List ℕ) → length (chars_after n c (str_to_ascii_lowercase bs)) ≡ length (chars_after n d bs)
after_lower zero c d [] = refl
after_lower zero c d (b ∷ bs) =
    ap (λ n. suc (length (chars_after n (lead_bits (to_ascii_lowercase b)) (str_to_ascii_lowercase bs)))) (same_continuation b)
    ∙ ap suc (after_lower (continuation_len b) (lead_bits (to_ascii_lowercase b)) (lead_bits b) bs)
after_lower (suc n) c d [] = refl
after_lower (suc n) c d (b ∷ bs) = after_lower n (c * 64 + (to_ascii_lowercase b - 128)) (d * 64 + (b - 128)) bs

pub width_lower : (bs : List ℕ) → length (chars (str_to_ascii_lowercase bs)) ≡ length (chars bs)
unfolding chars
width_lower [] = refl
width_lower (b ∷ bs) =
    ap (λ n. length (chars_after n (lead_bits (to_ascii_lowercase b)) (str_to_ascii_lowercase bs))) (same_continuation b)
    ∙ after_lower (continuation_len b) (lead_bits (to_ascii_lowercase b)) (lead_bits b) bs
