-- Examples of the definitions, computed.
use Rattle.std.proofs.Common.{◌≡◌, refl, Some, None, true, false, pos, neg_ℤ}
use Rattle.std.specs.Prelude.{codes}
use Rattle.std.specs.Str.{trim_start, trim_end, chars}
use Rattle.bib_tables.specs.declared.type_error.TypeErrorKind.TheVariants.{UndefinedRange, DayOutOfRange, MonthOutOfRange, WrongNumberOfDigits}
use Rattle.bib_dates.specs.declared.date.DateValue.TheVariants.{At, After, Before, Between}
use Rattle.bib_dates.specs.Readings.Reading.{says, error}
use Rattle.bib_dates.specs.Parts.{number, small_number, after_hyphens, sign, year}
use Rattle.bib_dates.specs.Times.{time, after_day, after_hour, after_minute, offset}
use Rattle.bib_dates.specs.Dates.{datetime, after_month, after_year, side, century, decade, all_days, unknown_month, after_four_digits, unknown, range, date_value, marked_date, date_of}
use Rattle.bib_tables.specs.Months.{month_of_word}
use Rattle.bib_dates.specs.ThreeFields.{of_era, with_era, year_field, month_field, day_after, only_day, day_field, month_with_day, three_fields_of}

century_not_exact : date_of (codes "19XX~")
    ≡ says
    (record {
      value = Between (datetime (pos 1900) None None None) (datetime (pos 1999) None None None);
      uncertain = false;
      approximate = true;
    })
unfolding trim_start trim_end chars marked_date unknown century decade date_value lib.Utf8.encode
century_not_exact = refl

five_digits : date_of (codes "12345-XX") ≡ error WrongNumberOfDigits
unfolding trim_start trim_end chars marked_date unknown century decade date_value lib.Utf8.encode
five_digits = refl

digits_and_an_unknown : date_of (codes "2020X") ≡ error WrongNumberOfDigits
unfolding trim_start trim_end chars marked_date unknown after_four_digits date_value lib.Utf8.encode
digits_and_an_unknown = refl

days_of_no_month : date_of (codes "2020-00-XX") ≡ error MonthOutOfRange
unfolding trim_start trim_end chars marked_date unknown after_four_digits unknown_month all_days number after_hyphens
    date_value lib.Utf8.encode
days_of_no_month = refl

leap_day : date_of (codes "2020-02-29")
    ≡ says
    (record { value = At (datetime (pos 2020) (Some 1) (Some 28) None); uncertain = false; approximate = false })
unfolding trim_start trim_end chars marked_date date_value side year sign number small_number after_hyphens after_year
    after_month after_day lib.Utf8.encode
leap_day = refl

no_leap_day : date_of (codes "2021-02-29") ≡ error DayOutOfRange
unfolding trim_start trim_end chars marked_date date_value side year sign number small_number after_hyphens after_year
    after_month after_day lib.Utf8.encode
no_leap_day = refl

short_year : date_of (codes "-05")
    ≡ says (record { value = At (datetime (pos 1995) None None None); uncertain = false; approximate = false })
unfolding trim_start trim_end chars marked_date date_value side year sign number after_year lib.Utf8.encode
short_year = refl

after_a_time : date_of (codes "2020-04-04T18:30:31/")
    ≡ says
    (record {
      value = After (datetime (pos 2020) (Some 3) (Some 3) (time 18 30 31 None));
      uncertain = false;
      approximate = false;
    })
unfolding trim_start trim_end chars marked_date date_value range side year sign number small_number after_hyphens
    after_year after_month after_day after_hour after_minute offset lib.Utf8.encode
after_a_time = refl

before_with_mark : date_of (codes "/-0031-07%")
    ≡ says
    (record {
      value = Before (datetime (neg_ℤ (pos 31)) (Some 6) None None);
      uncertain = true;
      approximate = true;
    })
unfolding trim_start trim_end chars marked_date date_value range side year sign number small_number after_hyphens
    after_year after_month lib.Utf8.encode
before_with_mark = refl

no_sides : date_of (codes "../..") ≡ error UndefinedRange
unfolding trim_start trim_end chars marked_date date_value range lib.Utf8.encode
no_sides = refl

third_before : three_fields_of (codes "3 BCE") (Some (codes "Mar~5")) (Some (codes "+31"))
    ≡ says
    (record {
      value = At (datetime (neg_ℤ (pos 2)) (Some 2) (Some 30) None);
      uncertain = false;
      approximate = false;
    })
unfolding trim_start trim_end chars year_field sign with_era of_era month_field month_of_word day_field only_day
    month_with_day three_fields_of lib.Utf8.encode
third_before = refl

no_such_day : three_fields_of (codes "2020") (Some (codes "5")) (Some (codes "32")) ≡ error DayOutOfRange
unfolding trim_start trim_end chars year_field sign with_era of_era month_field month_of_word day_field only_day
    month_with_day three_fields_of lib.Utf8.encode
no_such_day = refl

day_after_month : three_fields_of (codes "2020") (Some (codes "May 32")) None ≡ error DayOutOfRange
unfolding trim_start trim_end chars year_field sign with_era of_era month_field month_of_word day_after month_with_day
    three_fields_of lib.Utf8.encode
day_after_month = refl
