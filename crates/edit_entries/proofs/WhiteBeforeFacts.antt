-- The ASCII white space directly before a byte offset is white space of the file grammar.
use Rattle.std.proofs.Common.{◌≡◌, ◌⊎◌, inl, inr, refl, ℕ, zero, suc, ◌+◌, ◌-◌, ◌<◌, ◌≤◌, Bool, true, false, List, [], ◌∷◌, length, drop, take, get_or, sym, ap, ◌∙◌, subst, arith}
use Rattle.std.proofs.lemmas.List.{length-take-le, take_all}
use Rattle.std.proofs.lemmas.List.Sums.{suffix_len-le-length, suffix_len-take_no, suffix_len-take_yes}
use Rattle.std.proofs.lemmas.Bool.Decides.{nat_tests}
use Rattle.std.specs.Char.{is_ascii_whitespace, is_whitespace}
use Rattle.std.specs.List.{AllByRecursion, suffix_len}
use Rattle.std.specs.Str.{IsTrimAsciiEnd}
use Rattle.std.proofs.lemmas.Str.Ascii.{trim_ascii_end_is}
use Rattle.edit_entries.specs.Setting.{white_before}
use Rattle.edit_entries.proofs.StandsFacts.{AreWhite}

places : (n k : ℕ) → k < suc n → (n ≡ k) ⊎ (k < n)
places zero zero below = inl refl
places zero (suc k) below = absurd (omega (arith, below))
places (suc n) zero below = inr (omega arith)
places (suc n) (suc k) below = by_rest (places n k (omega (arith, below)))
  where
    by_rest : (n ≡ k) ⊎ (k < n) → (suc n ≡ suc k) ⊎ (suc k < suc n)
    by_rest (inl same) = inl (omega (arith, same))
    by_rest (inr earlier) = inr (omega (arith, earlier))

module _ {A : Type 0} (p : A → Bool) (xs : List A) (d : A) where
  -- each element of the longest suffix of the first `n` elements that passes does pass
  suffix_passes : (n k : ℕ) → n ≤ length xs → n - suffix_len p (take n xs) ≤ k → k < n → p (get_or xs k d) ≡ true
  suffix_passes zero k within from below = absurd (omega (arith, below))
  suffix_passes (suc n) k within from below =
      by_case (p (get_or xs n d)) refl (λ earlier from'. suffix_passes n k (omega (arith, within)) from' earlier)
    where
      less : suc n - 1 ≡ n
      less = omega arith

      size : suffix_len p (take n xs) ≤ n
      size = omega (arith, suffix_len-le-length p (take n xs), length-take-le n xs (omega (arith, within)))

      by_place : (n ≡ k) ⊎ (k < n) → (k < n → n - suffix_len p (take n xs) ≤ k → p (get_or xs k d) ≡ true)
          → p (get_or xs n d) ≡ true → p (get_or xs k d) ≡ true
      by_place (inl same) rest passes = subst (λ m. p (get_or xs m d) ≡ true) same passes
      by_place (inr earlier) rest passes =
          let more : suffix_len p (take (suc n) xs) ≡ 1 + suffix_len p (take n xs) =
          subst (λ m. suffix_len p (take (suc n) xs) ≡ 1 + suffix_len p (take m xs)) less
          (suffix_len-take_yes p xs (suc n) d (omega arith) within (subst (λ m. p (get_or xs m d) ≡ true) (sym less) passes)) in
          rest earlier (omega (arith, from, more, size))

      by_case : (b : Bool) → p (get_or xs n d) ≡ b
          → (k < n → n - suffix_len p (take n xs) ≤ k → p (get_or xs k d) ≡ true) → p (get_or xs k d) ≡ true
      by_case true passes rest = by_place (places n k below) rest passes
      by_case false fails rest =
          let none : suffix_len p (take (suc n) xs) ≡ 0 =
          suffix_len-take_no p xs (suc n) d (omega arith) within (subst (λ m. p (get_or xs m d) ≡ false) (sym less) fails) in
          absurd (omega (arith, from, none, below))

all_from : {A : Type 0} (P : A → Type 0) (xs : List A) (i : ℕ) (d : A)
    → ((k : ℕ) → i ≤ k → k < length xs → P (get_or xs k d)) → AllByRecursion P (drop i xs)
all_from P [] zero d each = tt
all_from P [] (suc i) d each = tt
all_from P (x ∷ xs) zero d each =
    (each 0 (omega arith) (omega arith), all_from P xs zero d (λ k from below. each (suc k) (omega arith) (omega (arith, below))))
all_from P (x ∷ xs) (suc i) d each = all_from P xs i d (λ k from below. each (suc k) (omega (arith, from)) (omega (arith, below)))

pub white_ascii : (c : ℕ) → is_ascii_whitespace c ≡ true → (c < 128) × (is_whitespace c ≡ true)
white_ascii c white = (grind (arith, nat_tests), grind (arith, nat_tests))

pub before_white : (text : List ℕ) (at : ℕ) → at ≤ length text → AreWhite (white_before text at)
before_white text at within =
    let before : List ℕ = take at text in
    let size : length before ≡ at = length-take-le at text within in
    all_from (λ c. (c < 128) × (is_whitespace c ≡ true)) before (at - suffix_len is_ascii_whitespace before) 0
    (λ k from below.
    white_ascii (get_or before k 0)
    (suffix_passes is_ascii_whitespace before 0 at k (omega (arith, size))
    (subst (λ xs. at - suffix_len is_ascii_whitespace xs ≤ k) (sym (take_all at before (omega (arith, size)))) from)
    (omega (arith, below, size))))

-- the text between the trimmed end of a prefix and its end is `white_before`
pub white_cut : (text before rest white : List ℕ) (at : ℕ) → at ≤ length text → before ≡ take at text → IsTrimAsciiEnd before rest
    → white ≡ drop (length rest) before → white ≡ white_before text at
white_cut text before rest white at within is trimmed cut =
    let kept : ℕ = at - suffix_len is_ascii_whitespace (take at text) in
    let size : length before ≡ at = ap length is ∙ length-take-le at text within in
    let same : suffix_len is_ascii_whitespace before ≡ suffix_len is_ascii_whitespace (take at text) =
    ap (suffix_len is_ascii_whitespace) is in
    let length_is : length rest ≡ kept =
    ap length (trim_ascii_end_is before rest trimmed)
    ∙ length-take-le (length before - suffix_len is_ascii_whitespace before) before (omega arith) ∙ omega (arith, size, same) in
    cut ∙ ap (λ n. drop n before) length_is ∙ ap (drop kept) is
