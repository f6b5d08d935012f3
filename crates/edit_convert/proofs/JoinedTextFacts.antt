-- The joined text of a year, a month and a day is parsed as their date, if it can be parsed as a date.
use Rattle.std.proofs.Common.{◌≡◌, inl, inr, ℕ, suc, ◌+◌, ◌-◌, ◌<◌, ◌≤◌, Bool, true, false, cond, ◌||◌, ◌==◌, List, [], ◌∷◌, ◌++◌, length, take, drop, refl, sym, ap, ◌∙◌, subst, arith, lit<, append-nil, Option, Some, None, pos}
use Rattle.std.specs.Prelude.{◌&&◌, is_some, nat_lt, not}
use Rattle.std.specs.List.{list_all, prefix_len}
use Rattle.std.specs.Option.{option_map}
use Rattle.std.specs.Char.{is_ascii_alphabetic, is_ascii_digit}
use Rattle.std.specs.Str.{trim, trim_end, trim_start}
use Rattle.std.specs.Str.Parse.{AllDigits, digits_value}
use Rattle.std.proofs.lemmas.Bool.{and_parts, cases_lt}
use Rattle.std.proofs.lemmas.Bool.Decides.{nat_tests}
use Rattle.std.proofs.lemmas.Int.{ints}
use Rattle.jiff_core.specs.Calendar.{IsYear, days_in_month}
use Rattle.bib_tables.specs.Months.{month_index, month_of_word}
use Rattle.bib_tables.specs.declared.months.Month.{Month}
use Rattle.bib_tables.specs.declared.months.Month.TheVariants.{January, February, March, April, May, June, July, August, September, October, November, December}
use Rattle.bib_tables.specs.declared.type_error.TypeErrorKind.{TypeErrorKind}
use Rattle.bib_tables.specs.declared.type_error.TypeErrorKind.TheVariants.{DayOutOfRange, MonthOutOfRange}
use Rattle.bib_dates.specs.declared.date.Date.{Date}
use Rattle.bib_dates.specs.declared.date.DateValue.TheVariants.{At}
use Rattle.bib_dates.specs.declared.date.Datetime.{Datetime}
use Rattle.bib_dates.specs.Dates.{after_month, after_year, date_of, date_value, datetime, is_approximate, is_uncertain, last, marked_date, side}
use Rattle.bib_dates.specs.Kept.{IsKeptDatetime}
use Rattle.bib_dates.specs.Parts.{after_run, begins_with, lies, run, sign, small_number}
use Rattle.bib_dates.specs.Readings.{Reading, ◌>>=◌, readable_value}
use Rattle.bib_dates.specs.Readings.Reading.{says, error, unread}
use Rattle.bib_dates.specs.ThreeFields.{after_gap, day_after, day_field, day_number, day_of, month_and_day, month_field, month_named, month_with_day, on_day, only_day, reported_day, three_fields_of, with_era, year_field}
use Rattle.bib_dates.specs.Written.{datetime_text, with_zeros}
use Rattle.bib_text.proofs.DigitFacts.{run_digits, digit_no_hyphen}
use Rattle.bib_text.proofs.ListFacts.{passed_weaker, passed_append}
use Rattle.bib_dates.proofs.Digits.{four}
use Rattle.bib_dates.proofs.DatesReread.{is_date_byte, is_side, text_survives, any_byte, any_none, date_plain, digit_bytes, no_slash, no_x}
use Rattle.bib_dates.proofs.PartsReread.{Ends, IsNumber, after_hyphen, digits_plain, four_digits, hyphens_read, not_negative, nothing, number_reads, small_number_reads, two_digits, year_reads, within}
use Rattle.bib_dates.proofs.PlainTexts.{capitals-plain, is_plain, plain, trim_end-plain, trim_start-plain}
use Rattle.edit_convert.specs.Dates.{are_digits}
use Rattle.edit_convert.specs.Joined.{is_day_alone, is_month_alone, joined_text, month_date_text}

-- ---- a reading of two parts

-- if parsing one part and then another has a value, the first part has a value, and parsing the second one then has that value
both_read : {A B : Type 0} (first : Reading A) (then : A → Reading B) (c : B) → (first >>= then) ≡ says c
    → (a : A) × (first ≡ says a) × (then a ≡ says c)
both_read (says a) then c is = (a, refl, is)
both_read (error kind) then c is = absurd (cc)
both_read unread then c is = absurd (cc)

said : {A : Type 0} (a b : A) → says a ≡ says b → a ≡ b
said a b is = cc

-- ---- the year

no_plus : (b : ℕ) → is_ascii_digit b ≡ true → (b == 43) ≡ false
no_plus b h = grind (arith, nat_tests)

too_long : (n : ℕ) → (suc (suc (suc (suc (suc n)))) == 4) ≡ true → ⊥
too_long n is = grind (arith, nat_tests)

-- a year of four digits is their number
year_is : (text : List ℕ) → are_digits 4 text ≡ true
    → (year_field text ≡ says (pos (digits_value 10 text))) × (digits_value 10 text < 10000)
unfolding year_field sign with_era
year_is [] is = absurd (cc)
year_is (a ∷ []) is = absurd (cc)
year_is (a ∷ b ∷ []) is = absurd (cc)
year_is (a ∷ b ∷ c ∷ []) is = absurd (cc)
year_is (a ∷ b ∷ c ∷ d ∷ []) is =
    let p = and_parts (is_ascii_digit a) (list_all is_ascii_digit (b ∷ c ∷ d ∷ [])) is in
    let q = and_parts (is_ascii_digit b) (list_all is_ascii_digit (c ∷ d ∷ [])) p.1 in
    let r = and_parts (is_ascii_digit c) (list_all is_ascii_digit (d ∷ [])) q.1 in
    let s = and_parts (is_ascii_digit d) true r.1 in
    let whole : trim_start (a ∷ b ∷ c ∷ d ∷ []) ≡ a ∷ b ∷ c ∷ d ∷ [] =
    trim_start-plain (a ∷ b ∷ c ∷ d ∷ []) (digits_plain (a ∷ b ∷ c ∷ d ∷ []) is) in
    let size : prefix_len is_ascii_digit (a ∷ b ∷ c ∷ d ∷ []) ≡ 4 = rw (p.0, q.0, r.0, s.0) refl in
    let digits : AllDigits 10 (a ∷ b ∷ c ∷ d ∷ []) =
    subst (λ n. AllDigits 10 (take n (a ∷ b ∷ c ∷ d ∷ []))) size (run_digits (a ∷ b ∷ c ∷ d ∷ [])) in
    (rw (whole, digit_no_hyphen a p.0, no_plus a p.0, size, trim_start-plain [] refl) refl, four (a ∷ b ∷ c ∷ d ∷ []) digits (omega arith))
year_is (a ∷ b ∷ c ∷ d ∷ e ∷ rest) is =
    absurd
    (too_long (length rest)
    (and_parts (length (a ∷ b ∷ c ∷ d ∷ e ∷ rest) == 4) (list_all is_ascii_digit (a ∷ b ∷ c ∷ d ∷ e ∷ rest)) is).0)

-- ---- the month

-- the index of a month is less than 12
index_below : (month : Month) → month_index month < 12
index_below January = omega arith
index_below February = omega arith
index_below March = omega arith
index_below April = omega arith
index_below May = omega arith
index_below June = omega arith
index_below July = omega arith
index_below August = omega arith
index_below September = omega arith
index_below October = omega arith
index_below November = omega arith
index_below December = omega arith

month_below : (word : List ℕ) (m : ℕ) → month_named word ≡ Some m → m < 12
month_below word m is = by_case (month_of_word word) is
  where
    by_case : (month : Option Month) → option_map month_index month ≡ Some m → m < 12
    by_case None is = absurd (cc)
    by_case (Some month) is =
        let same : month_index month ≡ m = cc in
        let below = index_below month in
        omega arith

lies_below : (high n : ℕ) → lies 1 high n ≡ true → n - 1 < high
lies_below high n is = grind (arith, nat_tests)

month_case : (short fits : Bool) (n m : ℕ) (first word other rest : List ℕ) → (fits ≡ true → n - 1 < 12)
    → cond {A = Reading (Option ℕ × List ℕ)} short (cond fits (says (Some (n - 1), first)) (error MonthOutOfRange))
    (says (month_named word, other)) ≡ says (Some m, rest) → m < 12
month_case true true n m first word other rest below is =
    let given : Some (n - 1) ≡ Some m = ap (λ p. p.0) (said (Some (n - 1), first) (Some m, rest) is) in
    let same : n - 1 ≡ m = cc in
    let small = below refl in
    omega arith
month_case true false n m first word other rest below is = absurd (cc)
month_case false fits n m first word other rest below is =
    month_below word m (ap (λ p. p.0) (said (month_named word, other) (Some m, rest) is))

month_read : (text : List ℕ) (m : ℕ) (rest : List ℕ) → month_field text ≡ says (Some m, rest) → m < 12
unfolding month_field
month_read text m rest is =
    let here = trim_start text in
    let n = digits_value 10 (run is_ascii_digit here) in
    let following = after_run is_ascii_digit here in
    month_case (lies 1 2 (prefix_len is_ascii_digit here)) (lies 1 12 n) n m following
    (run is_ascii_alphabetic following) (after_run is_ascii_alphabetic following) rest (lies_below 12 n) is

-- ---- the day

number_case : (fits : Bool) (n k : ℕ) → (fits ≡ true → n - 1 < 31) → reported_day (cond fits (Some (n - 1)) None) ≡ says (Some k) → k < 31
number_case true n k below is = let same : n - 1 ≡ k = cc in let small = below refl in omega arith
number_case false n k below is = absurd (cc)

number_below : (digits : List ℕ) (k : ℕ) → reported_day (day_number digits) ≡ says (Some k) → k < 31
number_below digits k is =
    number_case (lies 1 31 (digits_value 10 digits)) (digits_value 10 digits) k (lies_below 31 (digits_value 10 digits))
    is

after_case : (none digitless : Bool) (digits : List ℕ) (k : ℕ)
    → cond none (says None) (cond digitless unread (reported_day (day_number digits))) ≡ says (Some k) → k < 31
after_case true digitless digits k is = absurd (cc)
after_case false true digits k is = absurd (cc)
after_case false false digits k is = number_below digits k is

only_case : (fits : Bool) (digits : List ℕ) (k : ℕ) → cond fits (reported_day (day_number digits)) unread ≡ says (Some k) → k < 31
only_case true digits k is = number_below digits k is
only_case false digits k is = absurd (cc)

only_below : (text : List ℕ) (k : ℕ) → only_day text ≡ says (Some k) → k < 31
unfolding only_day
only_below text k is =
    let digits = run is_ascii_digit text in
    only_case
    ((length (after_run is_ascii_digit text) == 0)
    && (not (prefix_len is_ascii_digit text == 0) && not (nat_lt 255 (digits_value 10 digits)))) digits k is

plus_case : (plus : Bool) (first second : List ℕ) (k : ℕ) → cond plus (only_day first) (only_day second) ≡ says (Some k) → k < 31
plus_case true first second k is = only_below first k is
plus_case false first second k is = only_below second k is

day_read : (day : Option (List ℕ)) (rest : List ℕ) (k : ℕ) → day_of day rest ≡ says (Some k) → k < 31
unfolding day_after day_field
day_read None rest k is =
    let here = after_gap rest in
    after_case (length here == length rest) (prefix_len is_ascii_digit here == 0) (run is_ascii_digit here) k is
day_read (Some text) rest k is = plus_case (begins_with 43 (trim text)) (drop 1 (trim text)) (trim text) k is

-- ---- three fields

-- a date is the one of a year below 10000, perhaps a month below 12 and perhaps a day below 31
record IsThree (year month : List ℕ) (day : Option (List ℕ)) (d : Date) : Type 0 where
  number : ℕ
  month_at : Option ℕ
  day_at : Option ℕ
  is : d ≡ on_day (pos number) month_at day_at
  small_year : number < 10000
  small_month : (m : ℕ) → month_at ≡ Some m → m < 12
  small_day : (k : ℕ) → day_at ≡ Some k → k < 31

three_read : (year month : List ℕ) (day : Option (List ℕ)) (d : Date) → are_digits 4 year ≡ true
    → three_fields_of year (Some month) day ≡ says d → IsThree year month day d
unfolding three_fields_of month_with_day
three_read year month day d digits is =
    let y = year_is year digits in
    let first = both_read (year_field year) (λ y. month_and_day (Some month) day >>= (λ parts. says (on_day y parts.0 parts.1))) d is in
    let second = both_read (month_with_day month day) (λ parts. says (on_day first.0 parts.0 parts.1)) d first.2 in
    let third = both_read (month_field month) (λ m. day_of day m.1 >>= (λ at. says (m.0, at))) second.0 second.1 in
    let fourth = both_read (day_of day third.0.1) (λ at. says (third.0.0, at)) second.0 third.2 in
    let number : pos (digits_value 10 year) ≡ first.0 = said (pos (digits_value 10 year)) first.0 (sym y.0 ∙ first.1) in
    let parts : (third.0.0, fourth.0) ≡ second.0 = said (third.0.0, fourth.0) second.0 fourth.2 in
    record {
      number = digits_value 10 year;
      month_at = third.0.0;
      day_at = fourth.0;
      is =
          sym (said (on_day first.0 second.0.0 second.0.1) d second.2) ∙ ap (λ p. on_day first.0 p.0 p.1) (sym parts)
          ∙ ap (λ n. on_day n third.0.0 fourth.0) (sym number);
      small_year = y.1;
      small_month = λ m here. month_read month m third.0.1 (third.1 ∙ ap (λ o. says (o, third.0.1)) here);
      small_day = λ k here. day_read day third.0.1 k (fourth.1 ∙ ap says here);
    }

-- ---- a day that its month doesn't have

not_uncertain : (b : ℕ) → (is_date_byte b || b == 0) ≡ true → is_uncertain b ≡ false
not_uncertain b h = grind (arith, nat_tests)

not_approximate : (b : ℕ) → (is_date_byte b || b == 0) ≡ true → is_approximate b ≡ false
not_approximate b h = grind (arith, nat_tests)

unmarked : (text : List ℕ) → list_all is_date_byte text ≡ true → (is_uncertain (last text) ≡ false) × (is_approximate (last text) ≡ false)
unmarked text h =
    let k =
    any_byte (λ b. is_date_byte b || b == 0) refl text
    (passed_weaker is_date_byte (λ b. is_date_byte b || b == 0) (λ b q. rw q refl) text h) (length text - 1) in
    (not_uncertain (last text) k, not_approximate (last text) k)

small_number_fails : (low high n : ℕ) (kind : TypeErrorKind) (xs rest : List ℕ) → lies low high n ≡ false
    → IsNumber 2 n xs → Ends rest → small_number low high kind (xs ++ rest) ≡ error kind
unfolding small_number
small_number_fails low high n kind xs rest past is ends = rw (number_reads 1 2 2 n xs rest refl is ends, past) refl

beyond : (low high n : ℕ) → high < n → lies low high n ≡ false
beyond low high n h = grind (arith, nat_tests)

year_kept : (n : ℕ) → n < 10000 → IsYear (pos n)
year_kept n small = omega (arith, ints)

-- a side of a year below 10000 with a day up to 31 that its month doesn't have has the error `DayOutOfRange`
side_fails : (n m k : ℕ) → n < 10000 → m < 12 → k < 31 → days_in_month (pos n) (m + 1) ≤ k
    → side (datetime_text (datetime (pos n) (Some m) (Some k) None)) ≡ error DayOutOfRange
unfolding side after_year after_month
side_fails n m k year month day past =
    let h = year_kept n year in
    let is : IsNumber 2 (m + 1) (with_zeros 2 (m + 1)) = two_digits (m + 1) (omega arith) in
    let last : IsNumber 2 (k + 1) (with_zeros 2 (k + 1)) = two_digits (k + 1) (omega arith) in
    let tail = rw append-nil at (after_hyphen 2 (k + 1) (with_zeros 2 (k + 1)) [] last refl) in
    let ends = after_hyphen 2 (m + 1) (with_zeros 2 (m + 1)) (45 ∷ with_zeros 2 (k + 1)) is tail.plain in
    rw (
      year_reads (pos n) (45 ∷ (with_zeros 2 (m + 1) ++ (45 ∷ with_zeros 2 (k + 1)))) h ends,
      trim_start-plain (45 ∷ (with_zeros 2 (m + 1) ++ (45 ∷ with_zeros 2 (k + 1)))) ends.plain,
      hyphens_read 2 (m + 1) (with_zeros 2 (m + 1)) (45 ∷ with_zeros 2 (k + 1)) (lit< tt) is tail,
      small_number_reads 1 12 (m + 1) MonthOutOfRange (with_zeros 2 (m + 1)) (45 ∷ with_zeros 2 (k + 1))
          (within 1 12 (m + 1) (omega arith) (omega arith)) is tail,
      trim_start-plain (45 ∷ with_zeros 2 (k + 1)) tail.plain,
      rw append-nil at (hyphens_read 2 (k + 1) (with_zeros 2 (k + 1)) [] (lit< tt) last nothing),
      rw append-nil at
          (small_number_fails 1 (days_in_month (pos n) (m + 1)) (k + 1) DayOutOfRange (with_zeros 2 (k + 1)) []
          (beyond 1 (days_in_month (pos n) (m + 1)) (k + 1) (omega arith)) last nothing),
    ) refl

text_bytes : (n m k : ℕ) → n < 10000 → m < 12 → k < 31
    → list_all is_date_byte (datetime_text (datetime (pos n) (Some m) (Some k) None)) ≡ true
text_bytes n m k year month day =
    let y : IsNumber 4 n (with_zeros 4 n) = four_digits n (omega arith) in
    let is : IsNumber 2 (m + 1) (with_zeros 2 (m + 1)) = two_digits (m + 1) (omega arith) in
    let last : IsNumber 2 (k + 1) (with_zeros 2 (k + 1)) = two_digits (k + 1) (omega arith) in
    rw (not_negative n)
    (passed_append is_date_byte (with_zeros 4 n) ((45 ∷ with_zeros 2 (m + 1)) ++ (45 ∷ with_zeros 2 (k + 1)))
    (digit_bytes (with_zeros 4 n) y.digits)
    (passed_append is_date_byte (with_zeros 2 (m + 1)) (45 ∷ with_zeros 2 (k + 1)) (digit_bytes (with_zeros 2 (m + 1)) is.digits)
    (digit_bytes (with_zeros 2 (k + 1)) last.digits)))

value_fails : (text : List ℕ) (kind : TypeErrorKind) → list_all is_date_byte text ≡ true → side text ≡ error kind
    → date_value text ≡ error kind
unfolding date_value
value_fails text kind bytes is =
    rw (
      any_none is_date_byte (λ b. b == 88) no_x text bytes,
      any_none is_date_byte (λ b. b == 47) no_slash text bytes,
      is,
    ) refl

marked_fails : (text : List ℕ) (kind : TypeErrorKind) → list_all is_date_byte text ≡ true → date_value text ≡ error kind
    → marked_date text ≡ error kind
unfolding marked_date
marked_fails text kind bytes is = let bare = unmarked text bytes in rw (bare.0, bare.1, is) refl

-- a date of a year below 10000 with a day up to 31 that its month doesn't have has the error `DayOutOfRange`
date_fails : (n m k : ℕ) → n < 10000 → m < 12 → k < 31 → days_in_month (pos n) (m + 1) ≤ k
    → date_of (datetime_text (datetime (pos n) (Some m) (Some k) None)) ≡ error DayOutOfRange
date_fails n m k year month day past =
    let text : List ℕ = datetime_text (datetime (pos n) (Some m) (Some k) None) in
    let bytes : list_all is_date_byte text ≡ true = text_bytes n m k year month day in
    let signs : plain text ≡ true = passed_weaker is_date_byte is_plain date_plain text bytes in
    ap (λ t. marked_date (trim_end t)) (capitals-plain text signs) ∙ ap marked_date (trim_end-plain text signs)
    ∙ marked_fails text DayOutOfRange bytes
    (value_fails text DayOutOfRange bytes (side_fails n m k year month day past))

-- ---- the date of three fields

-- a text is that of the date that a year, a month and perhaps a day are parsed as
pub record IsJoined (year month : List ℕ) (day : Option (List ℕ)) (text : List ℕ) : Type 0 where
  pub date : Datetime
  pub read : three_fields_of year (Some month) day ≡ says (record { value = At date; uncertain = false; approximate = false })
  pub kept : IsKeptDatetime date
  pub is : text ≡ datetime_text date

-- a joined text consists of digits and hyphens
pub joined_bytes : (year month : List ℕ) (day : Option (List ℕ)) (text : List ℕ) → IsJoined year month day text
    → list_all is_date_byte text ≡ true
joined_bytes year month day text joined =
    subst (λ t. list_all is_date_byte t ≡ true) (sym joined.is) (is_side joined.date joined.kept).bytes

-- a joined text is parsed as the date of the three fields
pub joined_same : (year month : List ℕ) (day : Option (List ℕ)) (text : List ℕ) → IsJoined year month day text
    → date_of text ≡ three_fields_of year (Some month) day
joined_same year month day text joined =
    let d : Date = record { value = At joined.date; uncertain = false; approximate = false } in
    ap date_of (joined.is ∙ sym (append-nil (datetime_text joined.date))) ∙ text_survives d joined.kept ∙ sym joined.read

if_true : {A : Type 0} (b : Bool) (o : Option A) (a : A) → cond b o None ≡ Some a → (b ≡ true) × (o ≡ Some a)
if_true true o a is = (refl, is)
if_true false o a is = absurd (cc)

-- if the text of a date with a month parses as a date, its day, if there is one, is a day of the month
day_kept : (n m : ℕ) (day : Option ℕ) → n < 10000 → m < 12 → ((k : ℕ) → day ≡ Some k → k < 31)
    → is_some (readable_value (date_of (datetime_text (datetime (pos n) (Some m) day None)))) ≡ true
    → IsKeptDatetime (datetime (pos n) (Some m) day None)
day_kept n m None year month days read = record { year = year_kept n year; day = month; time = refl }
day_kept n m (Some k) year month days read =
    elim (cases_lt k (days_in_month (pos n) (m + 1))) [
      | inl there ↦ record { year = year_kept n year; day = (month, there); time = refl }
      | inr past ↦ absurd (let none = ap (λ r. is_some (readable_value r)) (date_fails n m k year month (days k refl) past) in cc)
    ]

month_kept : (n : ℕ) (month day : Option ℕ) → n < 10000 → ((m : ℕ) → month ≡ Some m → m < 12)
    → ((k : ℕ) → day ≡ Some k → k < 31) → is_some month ≡ true
    → is_some (readable_value (date_of (datetime_text (datetime (pos n) month day None)))) ≡ true
    → IsKeptDatetime (datetime (pos n) month day None)
month_kept n None day year months days some read = absurd (cc)
month_kept n (Some m) day year months days some read = day_kept n m day year (months m refl) days read

by_reading : (year month : List ℕ) (day : Option (List ℕ)) (text : List ℕ) (r : Reading Date) → are_digits 4 year ≡ true
    → three_fields_of year (Some month) day ≡ r → month_date_text (readable_value r) ≡ Some text
    → IsJoined year month day text
by_reading year month day text (error kind) digits is found = absurd (cc)
by_reading year month day text unread digits is found = absurd (cc)
by_reading year month day text (says d) digits is found =
    let three = three_read year month day d digits is in
    let at : Datetime = datetime (pos three.number) three.month_at three.day_at None in
    let found' : month_date_text (Some (on_day (pos three.number) three.month_at three.day_at)) ≡ Some text =
    ap (λ x. month_date_text (Some x)) (sym three.is) ∙ found in
    let both =
    if_true (is_some three.month_at && is_some (readable_value (date_of (datetime_text at))))
    (Some (datetime_text at)) text found' in
    let tests = and_parts (is_some three.month_at) (is_some (readable_value (date_of (datetime_text at)))) both.0 in
    let given : Some (datetime_text at) ≡ Some text = both.1 in
    record {
      date = at;
      read = is ∙ ap says three.is;
      kept = month_kept three.number three.month_at three.day_at three.small_year three.small_month three.small_day tests.0 tests.1;
      is = cc;
    }

pub joined_known : (year month : List ℕ) (day : Option (List ℕ)) (text : List ℕ)
    → joined_text year month day ≡ Some text → IsJoined year month day text
joined_known year month day text found =
    let both =
    if_true (are_digits 4 year && (is_month_alone month && is_day_alone day))
    (month_date_text (readable_value (three_fields_of year (Some month) day))) text found in
    by_reading year month day text (three_fields_of year (Some month) day)
    (and_parts (are_digits 4 year) (is_month_alone month && is_day_alone day) both.0).0 refl both.1
