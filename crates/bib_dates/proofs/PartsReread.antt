-- The year, the month and the day of a kept date parse from its text.
use Rattle.std.proofs.Common.{◌≡◌, ℕ, zero, suc, ◌+◌, ◌-◌, ◌^◌, ◌<◌, ◌≤◌, true, false, ◌==◌, List, [], ◌∷◌, ◌++◌, length, replicate, refl, sym, ap, ◌∙◌, arith, lit<, length-append, take_at, drop_at, ne_eqb, append-nil}
use Rattle.std.specs.List.{prefix_len, list_all}
use Rattle.std.specs.Char.{is_ascii_digit}
use Rattle.std.specs.Str.{trim_start}
use Rattle.std.specs.Str.Parse.{digits_value}
use Rattle.std.specs.Fmt.{decimal}
use Rattle.std.proofs.lemmas.Fmt.{decimal_is_IsNumeral, length-decimal-le}
use Rattle.std.proofs.lemmas.List.{length-replicate}
use Rattle.std.proofs.lemmas.List.Folds.{list_all-append}
use Rattle.std.proofs.lemmas.Bool.{and_parts, and_from}
use Rattle.std.proofs.lemmas.Int.{ints}
use Rattle.std.proofs.lemmas.Bool.Decides.{nat_tests}
use Rattle.std.specs.Prelude.{ℤ, pos, negsuc, neg_ℤ, Option, Some, None}
use Rattle.std.specs.Int.{is_negative}
use Rattle.bib_text.proofs.DigitFacts.{all_digits}
use Rattle.bib_text.proofs.ListFacts.{passed_prefix}
use Rattle.jiff_core.specs.Calendar.{days_in_month, IsYear}
use Rattle.bib_tables.specs.declared.type_error.TypeErrorKind.{TypeErrorKind}
use Rattle.bib_tables.specs.declared.type_error.TypeErrorKind.TheVariants.{DayOutOfRange, MonthOutOfRange}
use Rattle.bib_dates.specs.Kept.{IsKeptDay}
use Rattle.bib_dates.proofs.PlainTexts.{is_plain, plain, trim_start-plain}
use Rattle.bib_dates.specs.Parts.{run, after_run, lies, number, small_number, begins_with, after_hyphens, sign, year}
use Rattle.bib_dates.specs.Times.{after_day}
use Rattle.bib_dates.specs.Dates.{datetime, after_month, after_year, side}
use Rattle.bib_dates.specs.Written.{zeros, with_zeros, year_text, datetime_text}
use Rattle.bib_dates.specs.Readings.Reading.{says}

all_zeros : (k : ℕ) → list_all is_ascii_digit (replicate k 48) ≡ true
all_zeros zero = refl
all_zeros (suc k) = all_zeros k

zeros_value : (k : ℕ) (ds : List ℕ) → digits_value 10 (replicate k 48 ++ ds) ≡ digits_value 10 ds
zeros_value zero ds = refl
zeros_value (suc k) ds = zeros_value k ds

-- a text of `width` digits with the value `n`
pub record IsNumber (width n : ℕ) (text : List ℕ) : Type 0 where
  pub digits : list_all is_ascii_digit text ≡ true
  pub size : length text ≡ width
  pub value : digits_value 10 text ≡ n

pub padded_number : (width n : ℕ) → 0 < width → n < 10 ^ width → n < 2 ^ 64 → IsNumber width n (with_zeros width n)
padded_number width n some small fits =
    let numeral = decimal_is_IsNumeral n fits in
    let short : length (decimal n) ≤ width = length-decimal-le width n some small fits in record {
      digits =
          list_all-append is_ascii_digit (zeros width n) (decimal n)
          ∙ and_from _ _ (all_zeros (width - length (decimal n))) (all_digits (decimal n) numeral.0.1);
      size = omega (arith, length-append (zeros width n) (decimal n), length-replicate {A = ℕ} (width - length (decimal n)) 48);
      value = zeros_value (width - length (decimal n)) (decimal n) ∙ numeral.1;
    }

-- the text after a number: a plain one that doesn't begin with a digit
pub record Ends (rest : List ℕ) : Type 0 where
  pub plain : plain rest ≡ true
  pub no_digit : prefix_len is_ascii_digit rest ≡ 0

digit_plain : (d : ℕ) → is_ascii_digit d ≡ true → is_plain d ≡ true
digit_plain d h = grind (arith, nat_tests)

pub digits_plain : (ds : List ℕ) → list_all is_ascii_digit ds ≡ true → plain ds ≡ true
digits_plain [] h = refl
digits_plain (d ∷ ds) h = let p = and_parts _ _ h in and_from _ _ (digit_plain d p.0) (digits_plain ds p.1)

pub plain-append : (xs ys : List ℕ) → plain xs ≡ true → plain ys ≡ true → plain (xs ++ ys) ≡ true
plain-append xs ys h k = list_all-append is_plain xs ys ∙ and_from _ _ h k

-- the run of digits at the start of a number, and the text after it, is the number
run_len : (width n : ℕ) (xs rest : List ℕ) → IsNumber width n xs → Ends rest → prefix_len is_ascii_digit (xs ++ rest) ≡ width
run_len width n xs rest is ends =
    let e = passed_prefix is_ascii_digit xs rest is.digits in let s = is.size in let z = ends.no_digit in omega arith

leading_run : (width n : ℕ) (xs rest : List ℕ) → IsNumber width n xs → Ends rest → run is_ascii_digit (xs ++ rest) ≡ xs
leading_run width n xs rest is ends =
    take_at xs rest (prefix_len is_ascii_digit (xs ++ rest)) (is.size ∙ sym (run_len width n xs rest is ends))

following : (width n : ℕ) (xs rest : List ℕ) → IsNumber width n xs → Ends rest → after_run is_ascii_digit (xs ++ rest) ≡ rest
following width n xs rest is ends =
    drop_at xs rest (prefix_len is_ascii_digit (xs ++ rest)) (is.size ∙ sym (run_len width n xs rest is ends))

starts_plain : (width n : ℕ) (xs rest : List ℕ) → IsNumber width n xs → Ends rest → trim_start (xs ++ rest) ≡ xs ++ rest
starts_plain width n xs rest is ends = trim_start-plain (xs ++ rest) (plain-append xs rest (digits_plain xs is.digits) ends.plain)

-- a number of an allowed width is parsed, up to the text after it
pub number_reads : (low high width n : ℕ) (xs rest : List ℕ) → lies low high width ≡ true → IsNumber width n xs
    → Ends rest → number low high (xs ++ rest) ≡ says (n, rest)
unfolding number
number_reads low high width n xs rest fits is ends =
    rw (
      starts_plain width n xs rest is ends,
      leading_run width n xs rest is ends,
      following width n xs rest is ends,
      run_len width n xs rest is ends,
      fits,
      is.value,
    ) refl

-- a number of two digits within the bounds is parsed as it
pub small_number_reads : (low high n : ℕ) (kind : TypeErrorKind) (xs rest : List ℕ) → lies low high n ≡ true
    → IsNumber 2 n xs → Ends rest → small_number low high kind (xs ++ rest) ≡ says (n, rest)
unfolding small_number
small_number_reads low high n kind xs rest fits is ends = rw (number_reads 1 2 2 n xs rest refl is ends, fits) refl

not_begun : (byte : ℕ) (xs rest : List ℕ) → list_all is_ascii_digit xs ≡ true → 0 < length xs
    → is_ascii_digit byte ≡ false → begins_with byte (xs ++ rest) ≡ false
not_begun byte [] rest h some other = absurd (omega arith)
not_begun byte (x ∷ xs) rest h some other =
    let p = and_parts _ _ h in
    ne_eqb x byte (λ e. let q : is_ascii_digit byte ≡ true = ap is_ascii_digit (sym e) ∙ p.0 in cc)

-- four digits without a sign, and without another digit after them, are parsed as a year
year_digits : (n : ℕ) (xs rest : List ℕ) → IsNumber 4 n xs → Ends rest → year (xs ++ rest) ≡ says (pos n, rest)
unfolding year sign
year_digits n xs rest is ends =
    let some : 0 < length xs = let s = is.size in omega arith in
    rw (
      starts_plain 4 n xs rest is ends,
      not_begun 45 xs rest is.digits some refl,
      not_begun 43 xs rest is.digits some refl,
      starts_plain 4 n xs rest is ends,
      leading_run 4 n xs rest is ends,
      following 4 n xs rest is ends,
      run_len 4 n xs rest is ends,
      is.value,
    ) refl

-- four digits after a minus, without another digit after them, are parsed as the negated year
year_minus : (n : ℕ) (xs rest : List ℕ) → IsNumber 4 n xs → Ends rest → year (45 ∷ (xs ++ rest)) ≡ says (neg_ℤ (pos n), rest)
unfolding year sign
year_minus n xs rest is ends =
    let whole : plain (45 ∷ (xs ++ rest)) ≡ true = plain-append xs rest (digits_plain xs is.digits) ends.plain in
    rw (
      trim_start-plain (45 ∷ (xs ++ rest)) whole,
      starts_plain 4 n xs rest is ends,
      leading_run 4 n xs rest is ends,
      following 4 n xs rest is ends,
      run_len 4 n xs rest is ends,
      is.value,
    ) refl

-- a number up to 9,999, padded with zeros, has four digits
pub four_digits : (n : ℕ) → n ≤ 9999 → IsNumber 4 n (with_zeros 4 n)
four_digits n h = padded_number 4 n (lit< tt) (omega arith) (omega arith)

-- a number below 100, padded with zeros, has two digits
pub two_digits : (n : ℕ) → n < 100 → IsNumber 2 n (with_zeros 2 n)
two_digits n h = padded_number 2 n (lit< tt) (omega arith) (omega arith)

-- a natural number isn't negative
pub not_negative : (n : ℕ) → is_negative (pos n) ≡ false
not_negative n = grind (arith, nat_tests)

-- a written year from -9999 to 9999 is parsed as it
pub year_reads : (y : ℤ) (rest : List ℕ) → IsYear y → Ends rest → year (year_text y ++ rest) ≡ says (y, rest)
year_reads (pos n) rest h ends = rw (not_negative n) (year_digits n (with_zeros 4 n) rest (four_digits n (omega (arith, ints))) ends)
year_reads (negsuc n) rest h ends = year_minus (suc n) (with_zeros 4 (suc n)) rest (four_digits (suc n) (omega (arith, ints))) ends

no_hyphen : (xs rest : List ℕ) → list_all is_ascii_digit xs ≡ true → 0 < length xs → prefix_len (λ b. b == 45) (xs ++ rest) ≡ 0
no_hyphen [] rest h some = absurd (omega arith)
no_hyphen (x ∷ xs) rest h some =
    let p = and_parts _ _ h in
    let e : (x == 45) ≡ false = ne_eqb x 45 (λ e. let q : is_ascii_digit 45 ≡ true = ap is_ascii_digit (sym e) ∙ p.0 in cc) in rw e refl

-- after a hyphen, the number and the text after it are left
pub hyphens_read : (width n : ℕ) (xs rest : List ℕ) → 0 < width → IsNumber width n xs → Ends rest
    → after_hyphens (45 ∷ (xs ++ rest)) ≡ says (xs ++ rest)
unfolding after_hyphens
hyphens_read width n xs rest some is ends =
    let whole : plain (45 ∷ (xs ++ rest)) ≡ true = plain-append xs rest (digits_plain xs is.digits) ends.plain in
    let there : 0 < length xs = let s = is.size in omega arith in
    rw (trim_start-plain (45 ∷ (xs ++ rest)) whole, no_hyphen xs rest is.digits there) refl

-- a number ends at the end of the text
pub nothing : Ends []
nothing = record { plain = refl; no_digit = refl }

-- a number ends at a hyphen before another number and plain text
pub after_hyphen : (width n : ℕ) (xs rest : List ℕ) → IsNumber width n xs → plain rest ≡ true → Ends (45 ∷ (xs ++ rest))
after_hyphen width n xs rest is h = record { plain = plain-append xs rest (digits_plain xs is.digits) h; no_digit = refl }

-- a month has at most 31 days
pub month_short : (y : ℤ) (m : ℕ) → days_in_month y m ≤ 31
month_short y m = grind (arith, nat_tests)

one_less : (n : ℕ) → n + 1 - 1 ≡ n
one_less n = omega arith

-- a number between two bounds passes the test
pub within : (low high n : ℕ) → low ≤ n → n ≤ high → lies low high n ≡ true
within low high n h k = grind (arith, nat_tests)

-- a kept date without a time parses from its text as a side
pub side_reads : (y : ℤ) (m d : Option ℕ) → IsYear y → IsKeptDay y m d
    → side (datetime_text (datetime y m d None)) ≡ says (datetime y m d None)
unfolding side after_year after_month after_day
side_reads y None None h k = rw (year_reads y [] h nothing, trim_start-plain [] refl) refl
side_reads y None (Some d) h k = absurd k
side_reads y (Some m) None h k =
    let p = with_zeros 2 (m + 1) in
    let is : IsNumber 2 (m + 1) (with_zeros 2 (m + 1)) = two_digits (m + 1) (omega arith) in
    let ends = rw append-nil at (after_hyphen 2 (m + 1) (with_zeros 2 (m + 1)) [] is refl) in
    rw (
      year_reads y (45 ∷ with_zeros 2 (m + 1)) h ends,
      trim_start-plain (45 ∷ with_zeros 2 (m + 1)) ends.plain,
      rw append-nil at (hyphens_read 2 (m + 1) (with_zeros 2 (m + 1)) [] (lit< tt) is nothing),
      rw append-nil at
          (small_number_reads 1 12 (m + 1) MonthOutOfRange (with_zeros 2 (m + 1)) []
          (within 1 12 (m + 1) (omega arith) (omega arith)) is nothing),
      trim_start-plain [] refl,
      one_less m,
    ) refl
side_reads y (Some m) (Some d) h k =
    let few = month_short y (m + 1) in
    let is : IsNumber 2 (m + 1) (with_zeros 2 (m + 1)) = two_digits (m + 1) (omega (arith, k.0)) in
    let day : IsNumber 2 (d + 1) (with_zeros 2 (d + 1)) = two_digits (d + 1) (omega (arith, k.1)) in
    let tail = rw append-nil at (after_hyphen 2 (d + 1) (with_zeros 2 (d + 1)) [] day refl) in
    let ends = after_hyphen 2 (m + 1) (with_zeros 2 (m + 1)) (45 ∷ with_zeros 2 (d + 1)) is tail.plain in
    rw (
      year_reads y (45 ∷ (with_zeros 2 (m + 1) ++ (45 ∷ with_zeros 2 (d + 1)))) h ends,
      trim_start-plain (45 ∷ (with_zeros 2 (m + 1) ++ (45 ∷ with_zeros 2 (d + 1)))) ends.plain,
      hyphens_read 2 (m + 1) (with_zeros 2 (m + 1)) (45 ∷ with_zeros 2 (d + 1)) (lit< tt) is tail,
      small_number_reads 1 12 (m + 1) MonthOutOfRange (with_zeros 2 (m + 1)) (45 ∷ with_zeros 2 (d + 1))
          (within 1 12 (m + 1) (omega arith) (omega (arith, k.0))) is tail,
      trim_start-plain (45 ∷ with_zeros 2 (d + 1)) tail.plain,
      rw append-nil at (hyphens_read 2 (d + 1) (with_zeros 2 (d + 1)) [] (lit< tt) day nothing),
      rw append-nil at
          (small_number_reads 1 (days_in_month y (m + 1)) (d + 1) DayOutOfRange (with_zeros 2 (d + 1)) []
          (within 1 (days_in_month y (m + 1)) (d + 1) (omega arith) (omega (arith, k.1))) day nothing),
      trim_start-plain [] refl,
      one_less m,
      one_less d,
    ) refl
