-- Names: plain names are identifiers in lowercase, and a name with a number is plain.
use Rattle.std.proofs.Common.{◌≡◌, ℕ, ◌+◌, ◌<◌, ◌^◌, ◌||◌, ◌&&◌, Bool, true, false, cond, List, [], ◌∷◌, ◌++◌, length, drop, refl, sym, ap, ◌∙◌, subst, arith}
use Rattle.std.specs.Prelude.{◌==◌, None, Some, is_some}
use Rattle.std.specs.Char.{is_ascii_digit, is_ascii_lowercase, to_ascii_lowercase}
use Rattle.std.specs.Fmt.{decimal}
use Rattle.std.specs.List.{find, list_all, list_any}
use Rattle.std.specs.Str.{str_to_ascii_lowercase}
use Rattle.std.specs.Str.Parse.{AllDigits}
use Rattle.std.specs.Char.{digit_value}
use Rattle.std.proofs.lemmas.Bool.{false≢true, and_parts}
use Rattle.std.proofs.lemmas.Bool.Decides.{nat_tests}
use Rattle.std.proofs.lemmas.Fmt.{decimal_is_IsNumeral}
use Rattle.std.proofs.lemmas.List.{drop-drop}
use Rattle.std.proofs.lemmas.List.Folds.{list_all-append, list_any-append}
use Rattle.std.proofs.lemmas.Slice.Eq.{bytes_eq-Decides}
use Rattle.bib_text.specs.Places.{place, CharAt, Run}
use Rattle.bib_text.specs.Places.Run.{stop, step}
use Rattle.bib_text.proofs.PlaceFacts.{no_char_at_end, same_char}
use Rattle.bib_text.proofs.DigitFacts.{lower_digit}
use Rattle.bib_tables.specs.Months.{is_abbreviated, month_abbreviation, month_of_abbreviation, year_months}
use Rattle.bib_tables.specs.declared.months.Month.{Month}
use Rattle.bib_tables.specs.declared.months.Month.TheVariants.{January, February, March, April, May, June, July, August, September, October, November, December}
use Rattle.bib_syntax.specs.Characters.{is_id_continue, is_id_start}
use Rattle.bib_syntax.specs.Grammar.{Identifier, NoDigit, is_word, longest}
use Rattle.bib_syntax.specs.Reading.{part}
use Rattle.edit_entries.specs.Documents.{CanBeName}
use Rattle.edit_entries.proofs.EditFacts.{ascii_stands}
use Rattle.std.proofs.Math.Bool.{or-true}
use Rattle.edit_strings.specs.Collected.{is_month, number_after}
use Rattle.edit_strings.specs.Collecting.{is_plain_byte, is_plain_name}

-- ---- plain names are identifiers

lower_starts : (c : ℕ) → is_ascii_lowercase c ≡ true → (c < 128) × (is_id_start c ≡ true) × (is_ascii_digit c ≡ false)
lower_starts c is = (grind (arith, nat_tests), grind (arith, nat_tests), grind (arith, nat_tests))

plain_continues : (c : ℕ) → is_plain_byte c ≡ true → (c < 128) × (is_id_continue c ≡ true)
plain_continues c is = (grind (arith, nat_tests), grind (arith, nat_tests))

plain_run : (name : List ℕ) (at : ℕ) (bs : List ℕ) → drop at name ≡ bs → at + length bs ≡ length name
    → list_all is_plain_byte bs ≡ true → Run is_id_continue (place name at) (place name (length name))
plain_run name at [] here size all =
    let same : at ≡ length name = omega arith in
    subst (λ n. Run is_id_continue (place name at) (place name n)) same stop
plain_run name at (b ∷ bs) here size all =
    let both = and_parts (is_plain_byte b) (list_all is_plain_byte bs) all in
    let fits = plain_continues b both.0 in
    step (ascii_stands name bs at b fits.0 here) fits.1
    (plain_run name (at + 1) bs (sym (drop-drop 1 at name) ∙ ap (drop 1) here) (omega arith) both.1)

pub plain_can : (name : List ℕ) → is_plain_name name ≡ true → CanBeName name × NoDigit (place name 0)
plain_can [] is = absurd (false≢true is)
plain_can (b ∷ bs) is =
    let name : List ℕ = b ∷ bs in
    let both = and_parts (is_ascii_lowercase b) (list_all is_plain_byte bs) is in
    let fits = lower_starts b both.0 in
    let first : CharAt (place name 0) b (place name 1) = ascii_stands name bs 0 b fits.0 refl in
    let run = plain_run name 1 bs refl (omega arith) both.1 in
    let i : Identifier longest (place name 0) (part (place name 0) (place name (length name))) (place name (length name)) = record {
      second = place name 1;
      first = b;
      here = first;
      starts = fits.1;
      rest = record { run = run; stops = λ c v char. absurd (no_char_at_end refl char) };
      reading = refl;
    } in (
      (part (place name 0) (place name (length name)), i),
      λ c v char digit. absurd (false≢true (sym fits.2 ∙ ap is_ascii_digit (same_char first char).0 ∙ digit)),
    )

-- ---- a name with a number

digit_plain : (c : ℕ) → digit_value c < 10 → (is_ascii_digit c ≡ true) × (is_plain_byte c ≡ true)
digit_plain c small = (grind (arith, nat_tests), grind (arith, nat_tests))

digits_plain : (ds : List ℕ) → AllDigits 10 ds → list_all is_plain_byte ds ≡ true
digits_plain [] all = refl
digits_plain (d ∷ ds) all = ap (λ b. b && list_all is_plain_byte ds) (digit_plain d all.0).1 ∙ digits_plain ds all.1

has_digit : (ds : List ℕ) → 0 < length ds → AllDigits 10 ds → list_any is_ascii_digit ds ≡ true
has_digit [] some all = absurd (omega arith)
has_digit (d ∷ ds) some all = ap (λ b. b || list_any is_ascii_digit ds) (digit_plain d all.0).0

number_plain : (n : ℕ) → n < 2 ^ 64 → list_all is_plain_byte (number_after n) ≡ true
number_plain n small = by_case (n == 1)
  where
    by_case : (b : Bool) → list_all is_plain_byte (cond b [] (decimal n)) ≡ true
    by_case true = refl
    by_case false = digits_plain (decimal n) (decimal_is_IsNumeral n small).0.1

-- a plain name with a number is plain
pub numbered_plain : (base : List ℕ) (n : ℕ) → n < 2 ^ 64 → is_plain_name base ≡ true → is_plain_name (base ++ number_after n) ≡ true
numbered_plain [] n small is = absurd (false≢true is)
numbered_plain (b ∷ bs) n small is =
    let both = and_parts (is_ascii_lowercase b) (list_all is_plain_byte bs) is in
    ap (λ x. x && list_all is_plain_byte (bs ++ number_after n)) both.0
    ∙ list_all-append is_plain_byte bs (number_after n) ∙ ap (λ x. x && list_all is_plain_byte (number_after n)) both.1
    ∙ number_plain n small

-- ---- no name with a digit is a month's abbreviation

same_digits : (bs : List ℕ) → list_any is_ascii_digit (str_to_ascii_lowercase bs) ≡ list_any is_ascii_digit bs
same_digits [] = refl
same_digits (b ∷ bs) =
    ap (λ x. x || list_any is_ascii_digit (str_to_ascii_lowercase bs)) (lower_digit b)
    ∙ ap (λ x. is_ascii_digit b || x) (same_digits bs)

no_word : (name word : List ℕ) → list_any is_ascii_digit name ≡ true → list_any is_ascii_digit word ≡ false → is_word name word ≡ false
no_word name word some none = by_case (is_word name word) refl
  where
    by_case : (b : Bool) → is_word name word ≡ b → is_word name word ≡ false
    by_case true is =
        let same : str_to_ascii_lowercase name ≡ str_to_ascii_lowercase word =
        (bytes_eq-Decides (str_to_ascii_lowercase name) (str_to_ascii_lowercase word)).0 is in
        absurd
        (false≢true (sym none ∙ sym (same_digits word) ∙ ap (list_any is_ascii_digit) (sym same) ∙ same_digits name ∙ some))
    by_case false is = is

-- the abbreviation of a month has no digit
no_digits : (month : Month) → list_any is_ascii_digit (month_abbreviation month) ≡ false
no_digits January = refl
no_digits February = refl
no_digits March = refl
no_digits April = refl
no_digits May = refl
no_digits June = refl
no_digits July = refl
no_digits August = refl
no_digits September = refl
no_digits October = refl
no_digits November = refl
no_digits December = refl

none_abbreviated : (name : List ℕ) (months : List Month) → list_any is_ascii_digit name ≡ true → find (is_abbreviated name) months ≡ None
none_abbreviated name [] some = refl
none_abbreviated name (month ∷ months) some =
    ap (λ b. cond b (Some month) (find (is_abbreviated name) months))
    (no_word name (month_abbreviation month) some (no_digits month)) ∙ none_abbreviated name months some

no_month : (name : List ℕ) → list_any is_ascii_digit name ≡ true → is_month name ≡ false
unfolding month_of_abbreviation
no_month name some = ap is_some (none_abbreviated name year_months some)

-- a name that ends with a number below 2^64 is no month's abbreviation
pub numbered_no_month : (base : List ℕ) (n : ℕ) → n < 2 ^ 64 → is_month (base ++ decimal n) ≡ false
numbered_no_month base n small =
    let numeral = (decimal_is_IsNumeral n small).0 in
    no_month (base ++ decimal n)
    (list_any-append is_ascii_digit base (decimal n)
    ∙ ap (λ b. list_any is_ascii_digit base || b) (has_digit (decimal n) numeral.0 numeral.1) ∙ or-true (list_any is_ascii_digit base))

-- ---- plain names are in lowercase

same_lower : (c : ℕ) → is_plain_byte c ≡ true → to_ascii_lowercase c ≡ c
same_lower c is = grind (arith, nat_tests)

letter_is_plain : (c : ℕ) → is_ascii_lowercase c ≡ true → is_plain_byte c ≡ true
letter_is_plain c is = ap (λ b. b || is_ascii_digit c) is

plain_lower : (bs : List ℕ) → list_all is_plain_byte bs ≡ true → str_to_ascii_lowercase bs ≡ bs
plain_lower [] all = refl
plain_lower (b ∷ bs) all =
    let both = and_parts (is_plain_byte b) (list_all is_plain_byte bs) all in
    ap (λ c. c ∷ str_to_ascii_lowercase bs) (same_lower b both.0) ∙ ap (λ l. b ∷ l) (plain_lower bs both.1)

-- a plain name is in lowercase
pub name_lower : (name : List ℕ) → is_plain_name name ≡ true → str_to_ascii_lowercase name ≡ name
name_lower [] is = absurd (false≢true is)
name_lower (b ∷ bs) is =
    let both = and_parts (is_ascii_lowercase b) (list_all is_plain_byte bs) is in
    plain_lower (b ∷ bs) (ap (λ x. x && list_all is_plain_byte bs) (letter_is_plain b both.0) ∙ both.1)
