-- Kept dates parse from their written form, but an uncertain date as an approximate one.
use Rattle.std.proofs.Common.{◌≡◌, ℕ, ◌+◌, ◌<◌, Bool, false, cond, List, refl, sym, ap, ap₂, ◌∙◌, arith, Option, Some, None, ℤ, pos, negsuc}
use Rattle.std.specs.Prelude.{◌||◌, ◌&&◌, not, is_some, option_map}
use Rattle.std.specs.Ordering.{int_eq}
use Rattle.std.proofs.lemmas.Int.{ints}
use Rattle.std.proofs.lemmas.Bool.Decides.{nat_tests}
use Rattle.jiff_core.specs.Calendar.{IsYear}
use Rattle.bib_dates.specs.declared.date.Date.{Date}
use Rattle.bib_dates.specs.declared.date.DateValue.{DateValue}
use Rattle.bib_dates.specs.declared.date.DateValue.TheVariants.{At, After, Before, Between}
use Rattle.bib_dates.specs.declared.date.Datetime.{Datetime}
use Rattle.bib_dates.specs.Kept.{IsKeptDate, IsKeptDatetime, IsKeptDay, IsKeptValue}
use Rattle.bib_dates.specs.Written.{date_text}
use Rattle.bib_dates.proofs.DatesReread.{date_survives}
use Rattle.bib_dates.proofs.PartsReread.{month_short}
use Rattle.bib_csl.specs.Dates.{csl_year, date_item, from_one, open_side, parts_of_date, parts_of_value, read_or_unread}
use Rattle.bib_from_csl.specs.PlainDates.{IsDateReadBack}
use Rattle.bib_from_csl.specs.WrittenDates.{counted_part, counted_year, date_with, datetime_of, datetime_of_counts, from_zero, is_open_side, range_between, range_with_sides, text_of_item}

year_back : (y : ℤ) → IsYear y → counted_year (csl_year y) ≡ Some y
unfolding csl_year
year_back (pos n) h = grind (arith, ints, nat_tests)
year_back (negsuc n) h = grind (arith, ints, nat_tests)

count_back : (n last : ℕ) → n < last → from_zero (n + 1) last ≡ Some n
count_back n last h = grind (arith, nat_tests)

parts_back : (y : ℤ) (m d : Option ℕ) → IsYear y → IsKeptDay y m d
    → datetime_of_counts (counted_year (csl_year y)) (counted_part (option_map from_one m) 12)
    (counted_part (option_map from_one d) 31) ≡ Some (record { year = y; month = m; day = d; time = None })
parts_back y None None h k = ap (λ r. datetime_of_counts r (Some None) (Some None)) (year_back y h)
parts_back y None (Some d) h k = absurd k
parts_back y (Some m) None h k =
    ap₂ (λ r s. datetime_of_counts r (option_map Some s) (Some None)) (year_back y h) (count_back m 12 k)
parts_back y (Some m) (Some d) h k =
    ap₂ (λ r s. datetime_of_counts r (option_map Some s) (counted_part (Some (d + 1)) 31)) (year_back y h) (count_back m 12 k.0)
    ∙ ap (λ s. datetime_of_counts (Some y) (Some (Some m)) (option_map Some s))
    (count_back d 31 (omega (arith, k.1, month_short y (m + 1))))

datetime_back : (x : Datetime) → IsKeptDatetime x → datetime_of (parts_of_date x) ≡ Some x
unfolding parts_of_date
datetime_back x k =
    parts_back x.year x.month x.day k.year k.day
    ∙ ap (λ t. Some (record { year = x.year; month = x.month; day = x.day; time = t })) (sym k.time)

-- a date as it is parsed from its written form: approximate if it was uncertain or approximate
abbrev again : Date → Date
again d = date_with d.value (d.uncertain || d.approximate)

-- CSL counts no year as 0
year_not_zero : (y : ℤ) → int_eq (csl_year y) (pos 0) ≡ false
unfolding csl_year
year_not_zero (pos n) = grind (arith, ints, nat_tests)
year_not_zero (negsuc n) = grind (arith, ints, nat_tests)

-- a date isn't the open side of a range
date_not_open : (x : Datetime) → is_open_side (parts_of_date x) ≡ false
unfolding parts_of_date
date_not_open x =
    ap (λ b. b && (not (is_some (option_map from_one x.month)) && not (is_some (option_map from_one x.day)))) (year_not_zero x.year)

range_back : (a b : Datetime) → IsKeptDatetime a → IsKeptDatetime b
    → range_with_sides (parts_of_date a) (parts_of_date b) ≡ Some (Between a b)
range_back a b k l =
    ap (λ o. cond o (option_map After (datetime_of (parts_of_date a)))
    (cond (is_open_side (parts_of_date a)) (option_map Before (datetime_of (parts_of_date b)))
    (range_between (datetime_of (parts_of_date a)) (datetime_of (parts_of_date b))))) (date_not_open b)
    ∙ ap (λ o. cond o (option_map Before (datetime_of (parts_of_date b)))
    (range_between (datetime_of (parts_of_date a)) (datetime_of (parts_of_date b)))) (date_not_open a)
    ∙ ap₂ range_between (datetime_back a k) (datetime_back b l)

before_back : (x : Datetime) → IsKeptDatetime x → range_with_sides open_side (parts_of_date x) ≡ Some (Before x)
before_back x k =
    ap (λ o. cond o (option_map After (datetime_of open_side)) (option_map Before (datetime_of (parts_of_date x)))) (date_not_open x)
    ∙ ap (option_map Before) (datetime_back x k)

written_value : (v : DateValue) (circa : Bool) → IsKeptValue v
    → text_of_item (date_item (date_with v circa)) ≡ Some (date_text (date_with v circa))
unfolding text_of_item date_item parts_of_value
written_value (At x) circa k = ap (λ r. option_map (λ v. date_text (date_with v circa)) (option_map At r)) (datetime_back x k)
written_value (After x) circa k = ap (λ r. option_map (λ v. date_text (date_with v circa)) (option_map After r)) (datetime_back x k)
written_value (Before x) circa k = ap (option_map (λ v. date_text (date_with v circa))) (before_back x k)
written_value (Between a b) circa k = ap (option_map (λ v. date_text (date_with v circa))) (range_back a b k.0 k.1)

same_item : (d : Date) → date_item (again d) ≡ date_item d
unfolding date_item
same_item d = refl

reads : (d : Date) (text : List ℕ) → read_or_unread (Some d) text ≡ Some (date_item d)
unfolding read_or_unread
reads d text = refl

pub kept_dates_read : (d : Date) → IsKeptDate d → IsDateReadBack (date_item d)
kept_dates_read d kept = record {
  text = date_text (again d);
  written = ap text_of_item (sym (same_item d)) ∙ written_value d.value (d.uncertain || d.approximate) kept;
  read =
      ap (λ r. read_or_unread r (date_text (again d))) (date_survives (again d) kept)
      ∙ reads (again d) (date_text (again d)) ∙ ap Some (same_item d);
}
