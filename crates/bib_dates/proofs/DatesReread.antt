-- Each kept date parses from its text.
use Rattle.std.proofs.Common.{◌≡◌, ℕ, zero, suc, ◌+◌, ◌-◌, ◌<◌, ◌≤◌, Bool, true, false, ◌||◌, ◌==◌, not, List, [], ◌∷◌, ◌++◌, length, take, drop, get_or, refl, sym, ap, ◌∙◌, arith, length-append, take_at, drop_at, append-nil, append_assoc, Option, Some, None, ℤ, pos, negsuc}
use Rattle.std.specs.Prelude.{codes, bytes_eq}
use Rattle.std.specs.List.{list_all, list_any, before_first, after_first, position_or_len}
use Rattle.std.specs.Char.{is_ascii_digit}
use Rattle.std.proofs.lemmas.List.{get_or_at}
use Rattle.std.proofs.lemmas.List.Folds.{list_any-append}
use Rattle.std.proofs.lemmas.Bool.{and_parts}
use Rattle.std.proofs.lemmas.Int.{ints}
use Rattle.std.proofs.lemmas.Bool.Decides.{nat_tests}
use Rattle.bib_text.proofs.ListFacts.{passed_weaker, passed_append, passed_prefix}
use Rattle.jiff_core.specs.Calendar.{IsYear}
use Rattle.bib_dates.specs.declared.date.Date.{Date}
use Rattle.bib_dates.specs.declared.date.DateValue.{DateValue}
use Rattle.bib_dates.specs.declared.date.DateValue.TheVariants.{At, After, Before, Between}
use Rattle.bib_dates.specs.declared.date.Datetime.{Datetime}
use Rattle.bib_dates.specs.Kept.{IsKeptDay, IsKeptDatetime, IsKeptValue, IsKeptDate}
use Rattle.bib_dates.specs.Parts.{lies}
use Rattle.bib_dates.specs.Dates.{datetime, side, is_open, range, holds, date_value, last, is_uncertain, is_approximate, marked_date, date_of}
use Rattle.bib_dates.specs.Written.{with_zeros, year_text, month_day_text, datetime_text, value_text, mark_text, date_text}
use Rattle.bib_chunks.specs.Values.{text}
use Rattle.bib_chunks.proofs.ValueFacts.{is_simple, simple_text}
use Rattle.bib_dates.specs.Chunks.{date_read, date_written}
use Rattle.bib_dates.specs.Readings.{readable_value}
use Rattle.bib_dates.specs.Readings.Reading.{says}
use Rattle.bib_dates.proofs.PlainTexts.{is_plain, plain, trim_start-plain, trim_end-plain, capitals-plain}
use Rattle.bib_dates.proofs.PartsReread.{side_reads, not_negative, IsNumber, four_digits, two_digits, month_short}

-- a digit or a hyphen
abbrev pub is_date_byte : ℕ → Bool
is_date_byte b = is_ascii_digit b || b == 45

-- the text of a side: digits and hyphens, four bytes or more, which parses as the side
pub record IsSide (d : Datetime) (text : List ℕ) : Type 0 where
  pub bytes : list_all is_date_byte text ≡ true
  pub long : 4 ≤ length text
  pub read : side text ≡ says d

-- if no byte that passes `p` passes `q`, bytes that all pass `p` contain none that passes `q`
pub any_none : (p q : ℕ → Bool) → ((b : ℕ) → p b ≡ true → q b ≡ false) → (xs : List ℕ) → list_all p xs ≡ true → list_any q xs ≡ false
any_none p q f [] h = refl
any_none p q f (x ∷ xs) h = let k = and_parts (p x) (list_all p xs) h in rw (f x k.0) (any_none p q f xs k.1)

-- digits are bytes of a date
pub digit_bytes : (xs : List ℕ) → list_all is_ascii_digit xs ≡ true → list_all is_date_byte xs ≡ true
digit_bytes xs h = passed_weaker is_ascii_digit is_date_byte (λ b k. rw k refl) xs h

-- the text of a kept month and day consists of digits and hyphens
number_bytes : (y : ℤ) (m d : Option ℕ) → IsKeptDay y m d → list_all is_date_byte (month_day_text m d) ≡ true
number_bytes y None d k = refl
number_bytes y (Some m) None k =
    let is : IsNumber 2 (m + 1) (with_zeros 2 (m + 1)) = two_digits (m + 1) (omega arith) in
    digit_bytes (with_zeros 2 (m + 1)) is.digits
number_bytes y (Some m) (Some d) k =
    let few = month_short y (m + 1) in
    let is : IsNumber 2 (m + 1) (with_zeros 2 (m + 1)) = two_digits (m + 1) (omega (arith, k.0)) in
    let day : IsNumber 2 (d + 1) (with_zeros 2 (d + 1)) = two_digits (d + 1) (omega (arith, k.1)) in
    passed_append is_date_byte (with_zeros 2 (m + 1)) (45 ∷ with_zeros 2 (d + 1)) (digit_bytes (with_zeros 2 (m + 1)) is.digits)
    (digit_bytes (with_zeros 2 (d + 1)) day.digits)

-- a written year from -9999 to 9999 consists of digits and hyphens, and has at least four bytes
year_bytes : (y : ℤ) → IsYear y → (list_all is_date_byte (year_text y) ≡ true) × (4 ≤ length (year_text y))
year_bytes (pos n) h =
    let is : IsNumber 4 n (with_zeros 4 n) = four_digits n (omega (arith, ints)) in
    rw (not_negative n) (digit_bytes (with_zeros 4 n) is.digits, omega (arith, is.size))
year_bytes (negsuc n) h =
    let is : IsNumber 4 (suc n) (with_zeros 4 (suc n)) = four_digits (suc n) (omega (arith, ints)) in
    (digit_bytes (with_zeros 4 (suc n)) is.digits, omega (arith, is.size))

whole : (d : Datetime) → d.time ≡ None → datetime d.year d.month d.day None ≡ d
whole d e = ap (λ t. record { year = d.year; month = d.month; day = d.day; time = t }) (sym e)

-- the text of a kept date is the text of a side
pub is_side : (d : Datetime) → IsKeptDatetime d → IsSide d (datetime_text d)
is_side d kept =
    let year = year_bytes d.year kept.year in record {
      bytes =
          passed_append is_date_byte (year_text d.year) (month_day_text d.month d.day) year.0
          (number_bytes d.year d.month d.day kept.day);
      long = omega (arith, year.1, length-append (year_text d.year) (month_day_text d.month d.day));
      read = side_reads d.year d.month d.day kept.year kept.day ∙ ap says (whole d kept.time);
    }

-- ---- sides

-- a digit or a hyphen is a plain byte
pub date_plain : (b : ℕ) → is_date_byte b ≡ true → is_plain b ≡ true
date_plain b h = grind (arith, nat_tests)

-- a digit or a hyphen is no slash
pub no_slash : (b : ℕ) → is_date_byte b ≡ true → (b == 47) ≡ false
no_slash b h = grind (arith, nat_tests)

-- a digit or a hyphen is no `X`
pub no_x : (b : ℕ) → is_date_byte b ≡ true → (b == 88) ≡ false
no_x b h = grind (arith, nat_tests)

no_point : (b : ℕ) → is_date_byte b ≡ true → (b == 46) ≡ false
no_point b h = grind (arith, nat_tests)

passes_slash : (b : ℕ) → is_date_byte b ≡ true → not (b == 47) ≡ true
passes_slash b h = grind (arith, nat_tests)

-- the text of a side is plain
plain_side : (d : Datetime) (text : List ℕ) → IsSide d text → plain text ≡ true
plain_side d text is = passed_weaker is_date_byte is_plain date_plain text is.bytes

not_points : (text : List ℕ) → list_all is_date_byte text ≡ true → 0 < length text → bytes_eq text (codes "..") ≡ false
not_points [] h some = absurd (omega arith)
not_points (b ∷ text) h some = let k = and_parts (is_date_byte b) (list_all is_date_byte text) h in rw (no_point b k.0) refl

some_long : (n : ℕ) → 4 ≤ n → (n == 0) ≡ false
some_long n h = grind (arith, nat_tests)

-- the text of a side isn't that of an open side
closed : (d : Datetime) (text : List ℕ) → IsSide d text → is_open text ≡ false
closed d text is =
    let h = plain_side d text is in
    rw (
      trim_start-plain text h,
      trim_end-plain text h,
      some_long (length text) is.long,
      not_points text is.bytes (let k = is.long in omega arith),
    ) refl

points_open : is_open (codes "..") ≡ true
points_open = rw (trim_start-plain (codes "..") refl, trim_end-plain (codes "..") refl) refl

slash_at : (xs rest : List ℕ) → list_all is_date_byte xs ≡ true → position_or_len (λ b. b == 47) (xs ++ (47 ∷ rest)) ≡ length xs
slash_at xs rest h =
    passed_prefix (λ b. not (b == 47)) xs (47 ∷ rest) (passed_weaker is_date_byte (λ b. not (b == 47)) passes_slash xs h)
    ∙ omega arith

before_slash : (xs rest : List ℕ) → list_all is_date_byte xs ≡ true → before_first (λ b. b == 47) (xs ++ (47 ∷ rest)) ≡ xs
before_slash xs rest h = take_at xs (47 ∷ rest) (position_or_len (λ b. b == 47) (xs ++ (47 ∷ rest))) (sym (slash_at xs rest h))

after_slash : (xs rest : List ℕ) → list_all is_date_byte xs ≡ true → after_first (λ b. b == 47) (xs ++ (47 ∷ rest)) ≡ rest
after_slash xs rest h =
    let len : length (xs ++ (47 ∷ [])) ≡ position_or_len (λ b. b == 47) (xs ++ (47 ∷ rest)) + 1 =
    omega (arith, length-append xs (47 ∷ []), slash_at xs rest h) in
    ap (drop (position_or_len (λ b. b == 47) (xs ++ (47 ∷ rest)) + 1)) (sym (append_assoc xs (47 ∷ []) rest))
    ∙ drop_at (xs ++ (47 ∷ [])) rest (position_or_len (λ b. b == 47) (xs ++ (47 ∷ rest)) + 1) len

without_x : (text : List ℕ) → list_all is_date_byte text ≡ true → holds 88 text ≡ false
without_x text h = any_none is_date_byte (λ b. b == 88) no_x text h

without_slash : (text : List ℕ) → list_all is_date_byte text ≡ true → holds 47 text ≡ false
without_slash text h = any_none is_date_byte (λ b. b == 47) no_slash text h

-- if no element of two lists passes a test, no element of their concatenation passes it
none_of : (p : ℕ → Bool) (xs ys : List ℕ) → list_any p xs ≡ false → list_any p ys ≡ false → list_any p (xs ++ ys) ≡ false
none_of p xs ys h k = list_any-append p xs ys ∙ rw h k

one_of : (p : ℕ → Bool) (xs ys : List ℕ) → list_any p xs ≡ false → list_any p ys ≡ true → list_any p (xs ++ ys) ≡ true
one_of p xs ys h k = list_any-append p xs ys ∙ rw h k

-- the text of a side parses as one date
at_reads : (d : Datetime) (text : List ℕ) → IsSide d text → date_value text ≡ says (At d)
unfolding date_value
at_reads d text is = rw (without_x text is.bytes, without_slash text is.bytes, is.read) refl

-- the text of a side and `/..` parse as the range from it on
after_reads : (d : Datetime) (text : List ℕ) → IsSide d text → date_value (text ++ codes "/..") ≡ says (After d)
unfolding date_value range
after_reads d text is = rw (
  none_of (λ b. b == 88) text (codes "/..") (without_x text is.bytes) refl,
  one_of (λ b. b == 47) text (codes "/..") (without_slash text is.bytes) refl,
  before_slash text (codes "..") is.bytes,
  after_slash text (codes "..") is.bytes,
  closed d text is,
  is.read,
  points_open,
) refl

-- `../` and the text of a side parse as the range up to it
before_reads : (d : Datetime) (text : List ℕ) → IsSide d text → date_value (codes "../" ++ text) ≡ says (Before d)
unfolding date_value range
before_reads d text is = rw (without_x text is.bytes, points_open, closed d text is, is.read) refl

-- the texts of two sides with a slash between them parse as the range
between_reads : (d e : Datetime) (text other : List ℕ) → IsSide d text → IsSide e other
    → date_value (text ++ (47 ∷ other)) ≡ says (Between d e)
unfolding date_value range
between_reads d e text other is too = rw (
  none_of (λ b. b == 88) text (47 ∷ other) (without_x text is.bytes) (without_x other too.bytes),
  one_of (λ b. b == 47) text (47 ∷ other) (without_slash text is.bytes) refl,
  before_slash text other is.bytes,
  after_slash text other is.bytes,
  closed d text is,
  is.read,
  closed e other too,
  too.read,
) refl

-- ---- the mark

-- a digit, a hyphen, a slash or a point
abbrev pub is_value_byte : ℕ → Bool
is_value_byte b = is_date_byte b || lies 46 47 b

-- a text without a mark that parses as the date or the range `v`
pub record IsValue (v : DateValue) (text : List ℕ) : Type 0 where
  pub bytes : list_all is_value_byte text ≡ true
  pub read : date_value text ≡ says v

value_bytes : (d : Datetime) (text : List ℕ) → IsSide d text → list_all is_value_byte text ≡ true
value_bytes d text is = passed_weaker is_date_byte is_value_byte (λ b k. rw k refl) text is.bytes

-- the text of a kept date or range is such a text
pub is_value : (v : DateValue) → IsKeptValue v → IsValue v (value_text v [])
is_value (At d) k =
    let is = is_side d k in
    rw append-nil (record { bytes = value_bytes d (datetime_text d) is; read = at_reads d (datetime_text d) is })
is_value (After d) k =
    let is = is_side d k in record {
      bytes = passed_append is_value_byte (datetime_text d) (codes "/..") (value_bytes d (datetime_text d) is) refl;
      read = after_reads d (datetime_text d) is;
    }
is_value (Before d) k =
    let is = is_side d k in
    rw append-nil (record { bytes = value_bytes d (datetime_text d) is; read = before_reads d (datetime_text d) is })
is_value (Between a b) k =
    let is = is_side a k.0 in
    let too = is_side b k.1 in
    rw append-nil (record {
      bytes =
          passed_append is_value_byte (datetime_text a) (47 ∷ datetime_text b) (value_bytes a (datetime_text a) is)
          (value_bytes b (datetime_text b) too);
      read = between_reads a b (datetime_text a) (datetime_text b) is too;
    })

-- the text of a date or a range ends with its mark
mark_after : (v : DateValue) (mark : List ℕ) → value_text v mark ≡ value_text v [] ++ mark
mark_after (At d) mark = rw append-nil refl
mark_after (After d) mark = sym (append_assoc (datetime_text d) (codes "/..") mark)
mark_after (Before d) mark = ap (λ text. codes "../" ++ (text ++ mark)) (sym (append-nil (datetime_text d)))
mark_after (Between a b) mark = rw append-nil (sym (append_assoc (datetime_text a) (47 ∷ datetime_text b) mark))

last_is : (text : List ℕ) (c : ℕ) → last (text ++ (c ∷ [])) ≡ c
last_is text c = get_or_at text c [] 0 (length (text ++ (c ∷ [])) - 1) (omega (arith, length-append text (c ∷ [])))

prefix_is : (text : List ℕ) (c : ℕ) → take (length (text ++ (c ∷ [])) - 1) (text ++ (c ∷ [])) ≡ text
prefix_is text c = take_at text (c ∷ []) (length (text ++ (c ∷ [])) - 1) (omega (arith, length-append text (c ∷ [])))

pub any_byte : (p : ℕ → Bool) → p 0 ≡ true → (text : List ℕ) → list_all p text ≡ true → (i : ℕ) → p (get_or text i 0) ≡ true
any_byte p zeroth [] h i = zeroth
any_byte p zeroth (b ∷ text) h zero = (and_parts (p b) (list_all p text) h).0
any_byte p zeroth (b ∷ text) h (suc i) = any_byte p zeroth text (and_parts (p b) (list_all p text) h).1 i

not_uncertain : (b : ℕ) → (is_value_byte b || b == 0) ≡ true → is_uncertain b ≡ false
not_uncertain b h = grind (arith, nat_tests)

not_approximate : (b : ℕ) → (is_value_byte b || b == 0) ≡ true → is_approximate b ≡ false
not_approximate b h = grind (arith, nat_tests)

-- the last byte of a text whose bytes all pass `is_value_byte` is no mark
last_bare : (text : List ℕ) → list_all is_value_byte text ≡ true → (is_uncertain (last text) ≡ false) × (is_approximate (last text) ≡ false)
last_bare text h =
    let k =
    any_byte (λ b. is_value_byte b || b == 0) refl text
    (passed_weaker is_value_byte (λ b. is_value_byte b || b == 0) (λ b q. rw q refl) text h) (length text - 1) in
    (not_uncertain (last text) k, not_approximate (last text) k)

-- a date or a range with these marks
abbrev date : DateValue → Bool → Bool → Date
date v u a = record { value = v; uncertain = u; approximate = a }

-- a text without a mark parses as a date without one
marked_bare : (v : DateValue) (text : List ℕ) → IsValue v text → marked_date text ≡ says (date v false false)
unfolding marked_date
marked_bare v text is = let bare = last_bare text is.bytes in rw (bare.0, bare.1, is.read) refl

-- a text with a mark parses as the date with it
marked_by : (v : DateValue) (text : List ℕ) (c : ℕ) → IsValue v text → (is_uncertain c || is_approximate c) ≡ true
    → marked_date (text ++ (c ∷ [])) ≡ says (date v (is_uncertain c) (is_approximate c))
unfolding marked_date
marked_by v text c is h = rw (last_is text c, h, prefix_is text c, is.read) refl

-- a text with a mark or none parses as the date with it
marked_reads : (v : DateValue) (text : List ℕ) (u a : Bool) → IsValue v text → marked_date (text ++ mark_text u a) ≡ says (date v u a)
marked_reads v text true true is = marked_by v text 37 is refl
marked_reads v text true false is = marked_by v text 63 is refl
marked_reads v text false true is = marked_by v text 126 is refl
marked_reads v text false false is = rw append-nil (marked_bare v text is)

value_plain : (b : ℕ) → is_value_byte b ≡ true → is_plain b ≡ true
value_plain b h = grind (arith, nat_tests)

mark_plain : (u a : Bool) → plain (mark_text u a) ≡ true
mark_plain true true = refl
mark_plain true false = refl
mark_plain false true = refl
mark_plain false false = refl

-- the text of a kept date is plain
written_is_plain : (d : Date) → IsKeptDate d → plain (date_text d) ≡ true
written_is_plain d kept =
    let is = is_value d.value kept in
    let mark = mark_text d.uncertain d.approximate in
    rw (mark_after d.value mark)
    (passed_append is_plain (value_text d.value []) mark
    (passed_weaker is_value_byte is_plain value_plain (value_text d.value []) is.bytes)
    (mark_plain d.uncertain d.approximate))

-- the law on texts: each kept date parses from its text
pub text_survives : (d : Date) → IsKeptDate d → date_of (date_text d) ≡ says d
text_survives d kept =
    let bytes = written_is_plain d kept in
    rw (capitals-plain (date_text d) bytes, trim_end-plain (date_text d) bytes, mark_after d.value (mark_text d.uncertain d.approximate))
    (marked_reads d.value (value_text d.value []) d.uncertain d.approximate (is_value d.value kept))

plain_simple : (b : ℕ) → is_plain b ≡ true → is_simple b ≡ true
plain_simple b h = grind (arith, nat_tests)

-- the law on chunks: each kept date parses from its chunks
pub date_survives : (d : Date) → IsKeptDate d → date_read (date_written d) ≡ Some d
date_survives d kept =
    let whole : text (date_written d) ≡ date_text d =
    simple_text (date_text d) (passed_weaker is_plain is_simple plain_simple (date_text d) (written_is_plain d kept)) in
    ap readable_value (ap date_of whole ∙ text_survives d kept)
