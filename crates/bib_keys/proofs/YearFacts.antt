-- Four digits in a text.
use Rattle.std.proofs.Common.{◌≡◌, ℕ, zero, suc, ◌+◌, ◌-◌, ◌<◌, ◌≤◌, true, cond, List, [], ◌∷◌, length, take, drop, get_or, sym, ◌∙◌, ap, subst, arith, add-one, length-drop, lit<}
use Rattle.std.specs.Prelude.{Bool, false, IsAscii, IsCharBoundary, IsUtf8, nat_le}
use Rattle.std.specs.Char.{is_ascii_digit}
use Rattle.std.specs.List.{list_all}
use Rattle.std.proofs.lemmas.Bool.Decides.{nat_tests}
use Rattle.std.proofs.lemmas.List.{get_or-drop, get_or-take, length-take-le}
use Rattle.std.proofs.lemmas.Str.{IsCharBoundary-after_ascii}
use Rattle.std.proofs.lemmas.Str.Ascii.{IsAscii-nil, IsAscii-cons}
use Rattle.std.proofs.lemmas.Bool.{and_parts}
use Rattle.bib_text.proofs.DigitFacts.{digit_small}
use Rattle.bib_text.proofs.ListFacts.{take_to_end}
use Rattle.bib_keys.specs.Years.{begins_with_year, four_digits}

-- a text that begins with four digits has at least four bytes
pub long_enough : (text : List ℕ) → begins_with_year text ≡ true → 4 ≤ length text
long_enough text begins =
    let long = (and_parts (nat_le 4 (length text)) (list_all is_ascii_digit (take 4 text)) begins).0 in at_least (length text) long where
      at_least : (n : ℕ) → nat_le 4 n ≡ true → 4 ≤ n
      at_least n h = grind (arith, nat_tests)

-- digits are ASCII
pub digits_ascii : (text : List ℕ) → list_all is_ascii_digit text ≡ true → IsAscii text
digits_ascii [] all = IsAscii-nil
digits_ascii (c ∷ text) all =
    let both = and_parts (is_ascii_digit c) (list_all is_ascii_digit text) all in
    IsAscii-cons c text (digit_small c both.0) (digits_ascii text both.1)

-- the four digits at the start of a text are ASCII
pub year_ascii : (text : List ℕ) → begins_with_year text ≡ true → IsAscii (take 4 text)
year_ascii text begins =
    digits_ascii (take 4 text) (and_parts (nat_le 4 (length text)) (list_all is_ascii_digit (take 4 text)) begins).1

-- if a text begins with four digits, `four_digits` gives these
pub year_found : (text : List ℕ) → begins_with_year text ≡ true → four_digits text ≡ take 4 text
year_found [] begins = absurd (omega (arith, long_enough [] begins))
year_found (c ∷ text) begins = ap (λ b. cond b (take 4 (c ∷ text)) (four_digits text)) begins

-- without four digits at the start, the four digits in a text are those in the text after its first byte
pub year_skipped : (text : List ℕ) (i : ℕ) → i < length text → begins_with_year (drop i text) ≡ false
    → four_digits (drop i text) ≡ four_digits (drop (i + 1) text)
year_skipped text i within begins = rw (add-one) (of text i within begins) where
  of : (l : List ℕ) (k : ℕ) → k < length l → begins_with_year (drop k l) ≡ false → four_digits (drop k l) ≡ four_digits (drop (suc k) l)
  of [] k h b = absurd (omega arith)
  of (c ∷ l) zero h b = ap (λ t. cond t (take 4 (c ∷ l)) (four_digits l)) b
  of (c ∷ l) (suc k) h b = of l k (omega arith) b

-- in a UTF-8 text, the offset after a year is a character boundary
pub year_ends : (text : List ℕ) (i : ℕ) → IsUtf8 text → begins_with_year (drop i text) ≡ true → IsCharBoundary text (i + 4)
year_ends text i utf8 begins =
    let long : 4 ≤ length (drop i text) = long_enough (drop i text) begins in
    let within : i + 3 < length text = omega (arith, length-drop i text) in
    let digit : get_or text (i + 3) 0 < 128 =
    subst (λ n. n < 128) (get_or-take 4 (drop i text) 3 0 (lit< tt) ∙ get_or-drop i text 3 0)
    (year_ascii (drop i text) begins 3) in
    subst (IsCharBoundary text) (next i) (IsCharBoundary-after_ascii text (i + 3) utf8 within digit) where
      next : (n : ℕ) → n + 3 + 1 ≡ n + 4
      next n = omega arith

-- the four digits at the start of a text are four bytes
pub year_length : (text : List ℕ) → begins_with_year text ≡ true → length (take 4 text) ≡ 4
year_length text begins = length-take-le 4 text (long_enough text begins)

-- the length of a part of four characters
pub four_more : (n : ℕ) → n + 4 - n ≡ 4
four_more n = omega arith

-- the test of the slice from an index on is the test of the text from there on
pub begins_there : (bytes text : List ℕ) (i : ℕ) (answer value : Bool) → bytes ≡ text
    → answer ≡ begins_with_year (take (length bytes - i) (drop i bytes)) → answer ≡ value → begins_with_year (drop i text) ≡ value
begins_there bytes text i answer value same test is =
    sym (ap (λ l. begins_with_year l) (take_to_end bytes i) ∙ ap (λ l. begins_with_year (drop i l)) same) ∙ sym test ∙ is
