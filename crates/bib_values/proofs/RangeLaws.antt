-- Kept ranges parse from their written form.
use Rattle.std.proofs.Common.{◌≡◌, ℕ, ◌<◌, ◌^◌, Bool, true, false, not, List, [], ◌∷◌, ◌++◌, map, refl, sym, ap, ◌∙◌, arith, append_assoc, append-nil, Some}
use Rattle.std.specs.Prelude.{codes, ◌==◌, ◌||◌}
use Rattle.std.specs.List.{list_all, AllByRecursion}
use Rattle.std.specs.declared.ops.Range.{Range}
use Rattle.std.specs.Char.{is_ascii_digit, is_whitespace}
use Rattle.std.specs.Fmt.{decimal}
use Rattle.std.specs.Str.{chars}
use Rattle.std.specs.Str.Parse.{digits_value}
use Rattle.std.proofs.lemmas.Bool.{cond-true, cond-false, and_parts}
use Rattle.std.proofs.lemmas.Bool.Decides.{nat_tests}
use Rattle.std.proofs.lemmas.Fmt.{decimal_is_IsNumeral}
use Rattle.std.proofs.lemmas.Str.{chars-IsAscii, IsUtf8-from_ascii}
use Rattle.bib_chunks.specs.Formatted.{formatted_chars}
use Rattle.bib_chunks.specs.Cuts.{comma_list}
use Rattle.bib_chunks.specs.Values.{Value}
use Rattle.bib_values.specs.Lists.{is_plain_in_list, IsPlain, StringsKept}
use Rattle.bib_chunks.proofs.ValueFacts.{is_simple, simple_ascii}
use Rattle.bib_values.proofs.CommaFacts.{parts_format}
use Rattle.bib_values.specs.Ranges.{is_small, leading_number, after_dash, ends_at, up_to, starts_with, range_of, all_of, with_first, first_of, ranges_read, range_read, range_text, ranges_written, range_written, RangeKept, RangesKept}
use Rattle.bib_text.specs.Runs.{leading_run, rest_after}
use Rattle.bib_text.proofs.ScannedFacts.{split_prefix, split_after}
use Rattle.bib_text.proofs.ListFacts.{passed_weaker, passed_append}
use Rattle.bib_text.proofs.DigitFacts.{all_digits}
use Rattle.bib_values.proofs.RangeFacts.{small_yes}

-- a byte of a written range
abbrev is_byte : ℕ → Bool
is_byte b = is_ascii_digit b || b == 45

-- a written number below 2^32 consists of ASCII digits
pub decimal_digits : (n : ℕ) → n < 2 ^ 32 → list_all is_ascii_digit (decimal n) ≡ true
decimal_digits n small = all_digits _ (decimal_is_IsNumeral n (omega arith)).0.1

-- nothing is skipped if no character passes
stays : (p : ℕ → Bool) (cs : List ℕ) → list_all (λ c. not (p c)) cs ≡ true → rest_after p cs ≡ cs
stays p [] all = refl
stays p (c ∷ cs) all = here (p c) refl
  where
    here : (b : Bool) → p c ≡ b → rest_after p (c ∷ cs) ≡ c ∷ cs
    here true is = let no = (and_parts (not (p c)) (list_all (λ x. not (p x)) cs) all).0 in cc
    here false is = cond-false (p c) _ _ is

byte_white : (c : ℕ) → is_byte c ≡ true → not (is_whitespace c) ≡ true
byte_white c is = grind (arith, nat_tests)

digit_white : (c : ℕ) → is_ascii_digit c ≡ true → not (is_whitespace c) ≡ true
digit_white c is = grind (arith, nat_tests)

digit_hyphen : (c : ℕ) → is_ascii_digit c ≡ true → not (c == 45) ≡ true
digit_hyphen c is = grind (arith, nat_tests)

digit_byte : (c : ℕ) → is_ascii_digit c ≡ true → is_byte c ≡ true
digit_byte c is = grind (arith, nat_tests)

byte_plain : (c : ℕ) → is_byte c ≡ true → is_plain_in_list c ≡ true
byte_plain c is = grind (arith, nat_tests)

byte_simple : (c : ℕ) → is_byte c ≡ true → is_simple c ≡ true
byte_simple c is = grind (arith, nat_tests)

-- a number below 2^32 parses from its digits if no digit follows
number_decimal : (n : ℕ) (rest : List ℕ) → n < 2 ^ 32 → leading_run is_ascii_digit rest ≡ []
    → rest_after is_ascii_digit rest ≡ rest → leading_number (decimal n ++ rest) ≡ Some (n, rest)
unfolding leading_number
number_decimal n rest small none left =
    let spelt = decimal_is_IsNumeral n (omega arith) in
    let digits : leading_run is_ascii_digit (decimal n ++ rest) ≡ decimal n =
    split_prefix is_ascii_digit (decimal n) rest (decimal_digits n small) none in
    let value : digits_value 10 (decimal n) ≡ n = spelt.1 in
    let fits : digits_value 10 (decimal n) < 2 ^ 32 = omega arith in
    cond-true (is_small (leading_run is_ascii_digit (decimal n ++ rest))) _ _ (ap is_small digits ∙ small_yes (decimal n) (spelt.0.0, fits))
    ∙ ap (λ ds. Some (digits_value 10 ds, rest_after is_ascii_digit (decimal n ++ rest))) digits
    ∙ ap (λ v. Some (v, rest_after is_ascii_digit (decimal n ++ rest))) value
    ∙ ap (λ xs. Some (n, xs)) (split_after is_ascii_digit (decimal n) rest (decimal_digits n small) left)

-- a written kept range consists of digits and hyphens
range_bytes : (r : Range ℕ) → RangeKept r → list_all is_byte (range_text r) ≡ true
range_bytes r kept =
    passed_append is_byte (decimal r.start ++ codes "-") (decimal r.end)
    (passed_append is_byte (decimal r.start) (codes "-")
    (passed_weaker is_ascii_digit is_byte digit_byte (decimal r.start) (decimal_digits r.start kept.0)) refl)
    (passed_weaker is_ascii_digit is_byte digit_byte (decimal r.end) (decimal_digits r.end kept.1))

dash_passed : (b : ℕ) → b < 2 ^ 32 → after_dash (45 ∷ decimal b) ≡ Some (decimal b)
unfolding after_dash
dash_passed b small =
    ap (λ xs. Some xs)
    (stays (λ d. d == 45) (decimal b)
    (passed_weaker is_ascii_digit (λ c. not (c == 45)) digit_hyphen (decimal b) (decimal_digits b small)))

-- a kept range parses from its text
pub range_text_read : (r : Range ℕ) → RangeKept r → range_of (range_text r) ≡ Some r
unfolding range_of
range_text_read r kept =
    let solid : rest_after is_whitespace (range_text r) ≡ range_text r =
    stays is_whitespace (range_text r)
    (passed_weaker is_byte (λ c. not (is_whitespace c)) byte_white (range_text r) (range_bytes r kept)) in
    let shape : range_text r ≡ decimal r.start ++ (45 ∷ decimal r.end) = append_assoc (decimal r.start) (codes "-") (decimal r.end) in
    let first : leading_number (rest_after is_whitespace (range_text r)) ≡ Some (r.start, 45 ∷ decimal r.end) =
    ap leading_number (solid ∙ shape) ∙ number_decimal r.start (45 ∷ decimal r.end) kept.0 refl refl in
    let white : rest_after is_whitespace (decimal r.end) ≡ decimal r.end =
    stays is_whitespace (decimal r.end)
    (passed_weaker is_ascii_digit (λ c. not (is_whitespace c)) digit_white (decimal r.end)
    (decimal_digits r.end kept.1)) in
    let last : leading_number (rest_after is_whitespace (decimal r.end)) ≡ Some (r.end, []) =
    ap leading_number (white ∙ sym (append-nil (decimal r.end))) ∙ number_decimal r.end [] kept.1 refl refl in
    ap starts_with first ∙ ap (up_to r.start) (dash_passed r.end kept.1) ∙ ap (ends_at r.start) last

range_chars : (r : Range ℕ) → RangeKept r → chars (range_text r) ≡ range_text r
range_chars r kept =
    chars-IsAscii (range_text r)
    (simple_ascii (range_text r) (passed_weaker is_byte is_simple byte_simple (range_text r) (range_bytes r kept)))

-- the text of a kept range is plain in a comma list
range_plain : (r : Range ℕ) → RangeKept r → IsPlain (range_text r)
range_plain r kept =
    let bytes = range_bytes r kept in
    record {
      utf8 =
          IsUtf8-from_ascii (range_text r)
          (simple_ascii (range_text r) (passed_weaker is_byte is_simple byte_simple (range_text r) bytes));
      plain = ap (list_all is_plain_in_list) (range_chars r kept) ∙ passed_weaker is_byte is_plain_in_list byte_plain (range_text r) bytes;
    }

texts_plain : (ranges : List (Range ℕ)) → AllByRecursion RangeKept ranges → AllByRecursion IsPlain (map range_text ranges)
texts_plain [] kept = tt
texts_plain (r ∷ rest) kept = (range_plain r kept.0, texts_plain rest kept.1)

-- the texts of kept ranges are a kept list of texts
texts_kept : (ranges : List (Range ℕ)) → RangesKept ranges → StringsKept (map range_text ranges)
texts_kept [] kept = absurd (omega (arith, kept.0))
texts_kept (r ∷ rest) kept = (omega arith, texts_plain (r ∷ rest) kept.1)

one_read : (r : Range ℕ) → RangeKept r → range_of (chars (range_text r)) ≡ Some r
one_read r kept = ap range_of (range_chars r kept) ∙ range_text_read r kept

-- the texts of kept ranges are parsed as the ranges
all_read : (ranges : List (Range ℕ)) → AllByRecursion RangeKept ranges
    → all_of (map range_of (map chars (map range_text ranges))) ≡ Some ranges
all_read [] kept = refl
all_read (r ∷ rest) kept =
    ap (λ x. with_first x (all_of (map range_of (map chars (map range_text rest))))) (one_read r kept.0)
    ∙ ap (with_first (Some r)) (all_read rest kept.1)

composed : (parts : List Value) → map (λ part. range_of (formatted_chars part)) parts ≡ map range_of (map formatted_chars parts)
composed [] = refl
composed (p ∷ parts) = ap (λ xs. range_of (formatted_chars p) ∷ xs) (composed parts)

-- a list of kept ranges parses from its written form
pub ranges_survive : (ranges : List (Range ℕ)) → RangesKept ranges → ranges_read (ranges_written ranges) ≡ Some ranges
unfolding ranges_read
ranges_survive ranges kept =
    ap all_of
    (composed (comma_list (ranges_written ranges))
    ∙ ap (map range_of) (parts_format (map range_text ranges) (texts_kept ranges kept)))
    ∙ all_read ranges kept.1

-- a kept range parses from its written form
pub range_survives : (r : Range ℕ) → RangeKept r → range_read (range_written r) ≡ Some r
range_survives r kept = ap first_of (ranges_survive (r ∷ []) (omega arith, (kept, tt)))
