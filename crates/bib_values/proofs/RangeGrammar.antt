-- The parsed range of a text is the one that it spells.
use Rattle.std.proofs.Common.{◌≡◌, ℕ, ◌<◌, ◌^◌, Bool, true, false, cond, nat_lt, List, [], ◌∷◌, ◌++◌, length, refl, sym, ap, ◌∙◌, arith, append-nil, subst, Option, Some, None}
use Rattle.std.specs.Prelude.{◌==◌, ◌&&◌}
use Rattle.std.specs.List.{list_all}
use Rattle.std.specs.Char.{is_ascii_digit, is_whitespace}
use Rattle.std.specs.Str.Parse.{digits_value}
use Rattle.std.specs.declared.ops.Range.{Range}
use Rattle.std.proofs.lemmas.Bool.{and_parts, and_from, cond-true, cond-false}
use Rattle.std.proofs.lemmas.Bool.Decides.{nat_tests}
use Rattle.bib_values.specs.Ranges.{is_small, leading_number, is_dash, after_dash, ends_at, up_to, goes_on_with, starts_with, range_of, IsNumber, EndsRange, IsRange}
use Rattle.bib_text.specs.Runs.{leading_run, rest_after}
use Rattle.bib_text.proofs.ScannedFacts.{split_prefix, split_after}
use Rattle.bib_text.proofs.DigitFacts.{digit_dark, white_no_digit, digit_no_hyphen}
use Rattle.bib_values.proofs.OptionFacts.{given}
use Rattle.bib_values.proofs.RangeFacts.{small_yes}

-- the first of these characters, if there is one, doesn't pass the test
Halts : (ℕ → Bool) → List ℕ → Type 0
Halts test cs = (leading_run test cs ≡ []) × (rest_after test cs ≡ cs)

-- an empty text begins with no character that passes the test
halts_none : (test : ℕ → Bool) → Halts test []
unfolding Halts
halts_none test = (refl, refl)

-- a text whose first character fails the test begins with no character that passes it
halts_at : (test : ℕ → Bool) (c : ℕ) (cs : List ℕ) → test c ≡ false → Halts test (c ∷ cs)
unfolding Halts
halts_at test c cs fails = (cond-false (test c) _ _ fails, cond-false (test c) _ _ fails)

-- a run, possibly empty, of characters that fail the test, and then such a text, begin with no character that passes it
halts_run : (test other : ℕ → Bool) → ((c : ℕ) → other c ≡ true → test c ≡ false) → (run rest : List ℕ)
    → list_all other run ≡ true → Halts test rest → Halts test (run ++ rest)
halts_run test other apart [] rest all halts = halts
halts_run test other apart (c ∷ run) rest all halts =
    halts_at test c (run ++ rest) (apart c (and_parts (other c) (list_all other run) all).0)

-- the same for a non-empty run, and then any text
halts_some : (test other : ℕ → Bool) → ((c : ℕ) → other c ≡ true → test c ≡ false) → (run rest : List ℕ)
    → list_all other run ≡ true → 0 < length run → Halts test (run ++ rest)
halts_some test other apart [] rest all some = absurd (omega (arith, some))
halts_some test other apart (c ∷ run) rest all some =
    halts_at test c (run ++ rest) (apart c (and_parts (other c) (list_all other run) all).0)

white_no_hyphen : (c : ℕ) → is_whitespace c ≡ true → (c == 45) ≡ false
white_no_hyphen c is = grind (arith, nat_tests)

dash_no_digit : (c : ℕ) → is_dash c ≡ true → is_ascii_digit c ≡ false
dash_no_digit c is = grind (arith, nat_tests)

dash_not_white : (c : ℕ) → is_dash c ≡ true → is_whitespace c ≡ false
dash_not_white c is = grind (arith, nat_tests)

-- `rest_after` returns the text after a run that ends there
passed : (test : ℕ → Bool) (run rest : List ℕ) → list_all test run ≡ true → Halts test rest → rest_after test (run ++ rest) ≡ rest
unfolding Halts
passed test run rest all halts = split_after test run rest all halts.1

-- `leading_run` returns the run at the start of a text, if it ends there
taken : (test : ℕ → Bool) (run rest : List ℕ) → list_all test run ≡ true → Halts test rest → leading_run test (run ++ rest) ≡ run
unfolding Halts
taken test run rest all halts = split_prefix test run rest all halts.0

-- digits that no digit follows are the leading number
number_is : (digits rest : List ℕ) (n : ℕ) → IsNumber digits n → Halts is_ascii_digit rest
    → leading_number (digits ++ rest) ≡ Some (n, rest)
unfolding leading_number
number_is digits rest n is halts =
    let run : leading_run is_ascii_digit (digits ++ rest) ≡ digits = taken is_ascii_digit digits rest is.each halts in
    let value : digits_value 10 digits ≡ n = is.value in
    let fits : digits_value 10 digits < 2 ^ 32 = omega (arith, value, is.fits) in
    cond-true (is_small (leading_run is_ascii_digit (digits ++ rest))) _ _ (ap is_small run ∙ small_yes digits (is.some, fits))
    ∙ ap (λ ds. Some (digits_value 10 ds, rest_after is_ascii_digit (digits ++ rest))) run
    ∙ ap (λ v. Some (v, rest_after is_ascii_digit (digits ++ rest))) value
    ∙ ap (λ xs. Some (n, xs)) (passed is_ascii_digit digits rest is.each halts)

-- the text that ends a range doesn't begin with a digit
end_digit : (a b : ℕ) (rest : List ℕ) → EndsRange a rest b → Halts is_ascii_digit rest
end_digit a b rest EndsRange.lone = halts_none is_ascii_digit
end_digit a b rest (EndsRange.dashed dash hyphens white digits is_dashed all_hyphens all_white is) =
    halts_at is_ascii_digit dash _ (dash_no_digit dash is_dashed)

-- the text that ends a range doesn't begin with white space
end_white : (a b : ℕ) (rest : List ℕ) → EndsRange a rest b → Halts is_whitespace rest
end_white a b rest EndsRange.lone = halts_none is_whitespace
end_white a b rest (EndsRange.dashed dash hyphens white digits is_dashed all_hyphens all_white is) =
    halts_at is_whitespace dash _ (dash_not_white dash is_dashed)

-- a text that ends a range is parsed as its end
end_read : (a b : ℕ) (rest : List ℕ) → EndsRange a rest b → goes_on_with a rest ≡ Some (record { start = a; end = b })
unfolding after_dash
end_read a b rest EndsRange.lone = refl
end_read a b rest (EndsRange.dashed dash hyphens white digits is_dashed all_hyphens all_white is) =
    let none : Halts is_whitespace (digits ++ []) = halts_some is_whitespace is_ascii_digit digit_dark digits [] is.each is.some in
    let halts : Halts (λ c. c == 45) (digits ++ []) = halts_some (λ c. c == 45) is_ascii_digit digit_no_hyphen digits [] is.each is.some in
    let whole : digits ++ [] ≡ digits = append-nil digits in
    let blank : rest_after is_whitespace (white ++ (digits ++ [])) ≡ digits ++ [] =
    passed is_whitespace white (digits ++ []) all_white none in
    let more : rest_after (λ c. c == 45) (hyphens ++ (white ++ (digits ++ []))) ≡ white ++ (digits ++ []) =
    passed (λ c. c == 45) hyphens (white ++ (digits ++ [])) all_hyphens
    (halts_run (λ c. c == 45) is_whitespace white_no_hyphen white (digits ++ []) all_white halts) in
    ap (λ ds. up_to a (after_dash (dash ∷ (hyphens ++ (white ++ ds))))) (sym whole)
    ∙ ap (up_to a) (cond-true (is_dash dash) _ _ is_dashed ∙ ap (λ xs. Some xs) more)
    ∙ ap (λ xs. ends_at a (leading_number xs)) blank
    ∙ ap (ends_at a) (number_is digits [] b is (halts_none is_ascii_digit))

-- a text that is a range is parsed as it
pub range_read_of : (text : List ℕ) (range : Range ℕ) → IsRange text range → range_of text ≡ Some range
unfolding range_of
range_read_of text range is =
    let after_digits : Halts is_ascii_digit (is.between ++ is.rest) =
    halts_run is_ascii_digit is_whitespace white_no_digit is.between is.rest is.gap
    (end_digit range.start range.end is.rest is.end) in
    let after_white : rest_after is_whitespace (is.before ++ (is.digits ++ (is.between ++ is.rest)))
    ≡ is.digits ++ (is.between ++ is.rest) =
    passed is_whitespace is.before _ is.blank
    (halts_some is_whitespace is_ascii_digit digit_dark is.digits (is.between ++ is.rest) is.start.each
    is.start.some) in
    ap (λ cs. starts_with (leading_number (rest_after is_whitespace cs))) is.spells
    ∙ ap (λ cs. starts_with (leading_number cs)) after_white
    ∙ ap starts_with (number_is is.digits (is.between ++ is.rest) range.start is.start after_digits)
    ∙ ap (goes_on_with range.start) (passed is_whitespace is.between is.rest is.gap (end_white range.start range.end is.rest is.end))
    ∙ end_read range.start range.end is.rest is.end

-- characters are the run at the start and those after it
prefix_after : (test : ℕ → Bool) (cs : List ℕ) → cs ≡ leading_run test cs ++ rest_after test cs
prefix_after test [] = refl
prefix_after test (c ∷ cs) = here (test c) (prefix_after test cs)
  where
    here : (b : Bool) → cs ≡ leading_run test cs ++ rest_after test cs
        → c ∷ cs ≡ cond b (c ∷ leading_run test cs) [] ++ cond b (rest_after test cs) (c ∷ cs)
    here true is = ap (λ xs. c ∷ xs) is
    here false is = refl

-- the characters of a run pass the test
prefix_passes : (test : ℕ → Bool) (cs : List ℕ) → list_all test (leading_run test cs) ≡ true
prefix_passes test [] = refl
prefix_passes test (c ∷ cs) = here (test c) refl (prefix_passes test cs)
  where
    here : (b : Bool) → test c ≡ b → list_all test (leading_run test cs) ≡ true → list_all test (cond b (c ∷ leading_run test cs) []) ≡ true
    here true is more = and_from _ _ is more
    here false is more = refl

-- a parsed leading number is that of the digits at the start, and the text after these is left
number_spelt : (cs : List ℕ) (found : ℕ × List ℕ) → leading_number cs ≡ Some found
    → IsNumber (leading_run is_ascii_digit cs) found.0 × (rest_after is_ascii_digit cs ≡ found.1)
unfolding leading_number
number_spelt cs found is =
    let reported = given _ (digits_value 10 (leading_run is_ascii_digit cs), rest_after is_ascii_digit cs) found is in
    let small : nat_lt 0 (length (leading_run is_ascii_digit cs))
    && nat_lt (digits_value 10 (leading_run is_ascii_digit cs)) (2 ^ 32) ≡ true =
    reported.0 in
    let value : digits_value 10 (leading_run is_ascii_digit cs) ≡ found.0 = ap (λ both. both.0) reported.1 in
    let below : digits_value 10 (leading_run is_ascii_digit cs) < 2 ^ 32 = grind (arith, nat_tests) in (
      record { some = grind (arith, nat_tests); each = prefix_passes is_ascii_digit cs; value = value; fits = omega (arith, below, value) },
      ap (λ both. both.1) reported.1,
    )

-- the characters of a parsed dash
record IsDashed (cs left : List ℕ) : Type 0 where
  pub dash : ℕ
  pub hyphens : List ℕ
  pub is : is_dash dash ≡ true
  pub all : list_all (λ c. c == 45) hyphens ≡ true
  pub spells : cs ≡ dash ∷ (hyphens ++ left)

-- a parsed dash is a dash, any `-`, and the text after them
dash_spelt : (cs left : List ℕ) → after_dash cs ≡ Some left → IsDashed cs left
unfolding after_dash
dash_spelt [] left is = cc
dash_spelt (c ∷ cs) left is =
    let reported = given (is_dash c) (rest_after (λ d. d == 45) cs) left is in
    record {
      dash = c;
      hyphens = leading_run (λ d. d == 45) cs;
      is = reported.0;
      all = prefix_passes (λ d. d == 45) cs;
      spells = ap (λ xs. c ∷ xs) (prefix_after (λ d. d == 45) cs ∙ ap (λ xs. leading_run (λ d. d == 45) cs ++ xs) reported.1);
    }

same_end : (a b : ℕ) (range : Range ℕ) → Some (record { start = a; end = b }) ≡ Some range → (range.start ≡ a) × (b ≡ range.end)
same_end a b range is = let same : record { start = a; end = b } ≡ range = cc in (sym (ap (λ r. r.start) same), ap (λ r. r.end) same)

-- a parsed dash and end are a text that ends a range
dashed_spelt : (a b : ℕ) (cs left : List ℕ) (range : Range ℕ) → IsDashed cs left
    → leading_number (rest_after is_whitespace left) ≡ Some (b, []) → b ≡ range.end → EndsRange a cs range.end
dashed_spelt a b cs left range dashed read same =
    let reported = number_spelt (rest_after is_whitespace left) (b, []) read in
    let digits = leading_run is_ascii_digit (rest_after is_whitespace left) in
    let last : rest_after is_whitespace left ≡ digits =
    prefix_after is_ascii_digit (rest_after is_whitespace left) ∙ ap (λ xs. digits ++ xs) reported.1 ∙ append-nil digits in
    let spells : dashed.dash ∷ (dashed.hyphens ++ (leading_run is_whitespace left ++ digits)) ≡ cs =
    sym
    (dashed.spells
    ∙ ap (λ xs. dashed.dash ∷ (dashed.hyphens ++ xs))
    (prefix_after is_whitespace left ∙ ap (λ xs. leading_run is_whitespace left ++ xs) last)) in
    subst (λ xs. EndsRange a xs range.end) spells
    (subst (λ n. EndsRange a (dashed.dash ∷ (dashed.hyphens ++ (leading_run is_whitespace left ++ digits))) n) same
    (EndsRange.dashed dashed.dash dashed.hyphens (leading_run is_whitespace left) digits dashed.is dashed.all
    (prefix_passes is_whitespace left) reported.0))

-- if a range is parsed after its start, the text there ends the range
end_spelt : (a : ℕ) (rest : List ℕ) (range : Range ℕ) → goes_on_with a rest ≡ Some range → (range.start ≡ a) × EndsRange a rest range.end
end_spelt a [] range is = let same = same_end a a range is in (same.0, subst (λ n. EndsRange a [] n) same.1 EndsRange.lone)
end_spelt a (c ∷ cs) range is = by_dash (after_dash (c ∷ cs)) refl is
  where
    by_number : (left : List ℕ) (found : Option (ℕ × List ℕ)) → IsDashed (c ∷ cs) left
        → leading_number (rest_after is_whitespace left) ≡ found → ends_at a found ≡ Some range
        → (range.start ≡ a) × EndsRange a (c ∷ cs) range.end
    by_number left None dashed read ends = cc
    by_number left (Some (b, [])) dashed read ends =
        let same = same_end a b range ends in (same.0, dashed_spelt a b (c ∷ cs) left range dashed read same.1)
    by_number left (Some (b, d ∷ ds)) dashed read ends = cc

    by_dash : (found : Option (List ℕ)) → after_dash (c ∷ cs) ≡ found → up_to a found ≡ Some range
        → (range.start ≡ a) × EndsRange a (c ∷ cs) range.end
    by_dash None dash ends = cc
    by_dash (Some left) dash ends =
        by_number left (leading_number (rest_after is_whitespace left)) (dash_spelt (c ∷ cs) left dash) refl ends

-- a text is the range that is parsed from it, given the result of parsing its first number
range_from : (text : List ℕ) (range : Range ℕ) (found : Option (ℕ × List ℕ))
    → leading_number (rest_after is_whitespace text) ≡ found → starts_with found ≡ Some range → IsRange text range
range_from text range None read is = cc
range_from text range (Some (a, rest)) read is =
    let reported = number_spelt (rest_after is_whitespace text) (a, rest) read in
    let ends = end_spelt a (rest_after is_whitespace rest) range is in
    let digits = leading_run is_ascii_digit (rest_after is_whitespace text) in
    record {
      before = leading_run is_whitespace text;
      digits = digits;
      between = leading_run is_whitespace rest;
      rest = rest_after is_whitespace rest;
      spells =
          prefix_after is_whitespace text
          ∙ ap (λ xs. leading_run is_whitespace text ++ xs)
          (prefix_after is_ascii_digit (rest_after is_whitespace text)
          ∙ ap (λ xs. digits ++ xs) (reported.1 ∙ prefix_after is_whitespace rest));
      blank = prefix_passes is_whitespace text;
      start = subst (λ n. IsNumber digits n) (sym ends.0) reported.0;
      gap = prefix_passes is_whitespace rest;
      end = subst (λ n. EndsRange n (rest_after is_whitespace rest) range.end) (sym ends.0) ends.1;
    }

-- a text that is parsed as a range is that range
pub range_spelt : (text : List ℕ) (range : Range ℕ) → range_of text ≡ Some range → IsRange text range
unfolding range_of
range_spelt text range is = range_from text range (leading_number (rest_after is_whitespace text)) refl is
