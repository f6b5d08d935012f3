-- Each error of a date has one of the kinds that dates have, and so has each specified one.
use Rattle.std.proofs.Common.{◌≡◌, ◌⊎◌, ℕ, ◌==◌, Bool, true, false, cond, List, [], ◌∷◌, length, drop, Option, Some, None, subst, sym, ap, refl, inl, inr}
use Rattle.std.specs.Prelude.{ℤ, codes}
use Rattle.std.specs.Str.{trim_start, trim_end, str_to_ascii_uppercase}
use Rattle.bib_tables.specs.declared.type_error.TypeErrorKind.{TypeErrorKind}
use Rattle.bib_tables.specs.declared.type_error.TypeErrorKind.TheVariants.{DayOutOfRange, MonthOutOfRange, InvalidNumber, MissingNumber, WrongNumberOfDigits, InvalidFormat, YearZeroCE}
use Rattle.bib_dates.specs.Readings.{Reading, ◌>>=◌, IsDateKind, IsUnreadKind, MayRefuse}
use Rattle.bib_dates.specs.Readings.Reading.{says, error, unread}
use Rattle.bib_dates.specs.Parts.{begins_with, number, small_number, after_byte, after_hyphens, year}
use Rattle.bib_dates.specs.Times.{offset_minute, signed_offset, offset, after_minute, after_hour, after_day}
use Rattle.bib_dates.specs.Dates.{after_month, after_year, side, all_months, all_days, unknown_month, century, decade, after_four_digits, unknown, range, date_value, without_mark, marked_date, date_of}
use Rattle.bib_dates.specs.ThreeFields.{starts_word, stands, of_era, with_era, year_field, month_field, reported_day, day_after, only_day, day_field, day_of, month_with_day, month_and_day, three_fields_of}

-- each of the four kinds that an error may have if none is specified is one that dates have
is_date_kind : (kind : TypeErrorKind) → IsUnreadKind kind → IsDateKind kind
is_date_kind InvalidNumber is = tt
is_date_kind MissingNumber is = tt
is_date_kind WrongNumberOfDigits is = tt
is_date_kind InvalidFormat is = tt
is_date_kind _ never = absurd never

-- the kind of an error is the specified one, or one of the four
pub promised_or_unread : {A : Type 0} (r : Reading A) (kind : TypeErrorKind) → MayRefuse r kind
    → (r ≡ error kind) ⊎ ((r ≡ unread) × IsUnreadKind kind)
promised_or_unread (says a) kind never = absurd never
promised_or_unread (error promised) kind may = inl (ap (λ k. error k) (sym may.0))
promised_or_unread unread kind may = inr (refl, may)

-- the kind of an error is one that dates have
pub has_date_kind : {A : Type 0} (r : Reading A) (kind : TypeErrorKind) → MayRefuse r kind → IsDateKind kind
has_date_kind (says a) kind never = absurd never
has_date_kind (error promised) kind may = may.1
has_date_kind unread kind may = is_date_kind kind may

-- the specified kind of a reading, if any, is one that dates have
data Fine {A : Type 0} : Reading A → Type 0 where
  said : {a : A} → Fine (says a)
  reported : {kind : TypeErrorKind} → IsDateKind kind → Fine (error kind)
  not_read : Fine unread

fine_then : {A B : Type 0} {r : Reading A} {next : A → Reading B} → Fine r → ((a : A) → Fine (next a)) → Fine (r >>= next)
fine_then (Fine.said {a = a}) more = more a
fine_then (Fine.reported is) more = Fine.reported is
fine_then Fine.not_read more = Fine.not_read

fine_if : {A : Type 0} (b : Bool) {r s : Reading A} → Fine r → Fine s → Fine (cond b r s)
fine_if true one other = one
fine_if false one other = other

-- ---- parts

fine_byte : (byte : ℕ) (text : List ℕ) → Fine (after_byte byte text)
fine_byte byte text = fine_if _ Fine.said Fine.not_read

fine_hyphens : (text : List ℕ) → Fine (after_hyphens text)
unfolding after_hyphens
fine_hyphens text = fine_then (fine_byte 45 (trim_start text)) (λ _. Fine.said)

fine_number : (low high : ℕ) (text : List ℕ) → Fine (number low high text)
unfolding number
fine_number low high text = search (fine_if, Fine.said, Fine.not_read)

fine_small : (low high : ℕ) (kind : TypeErrorKind) (text : List ℕ) → IsDateKind kind → Fine (small_number low high kind text)
unfolding small_number
fine_small low high kind text is = fine_then (fine_number 1 2 text) (λ n. fine_if _ Fine.said (Fine.reported is))

fine_year : (text : List ℕ) → Fine (year text)
unfolding year
fine_year text = search (fine_if, Fine.said, Fine.not_read)

-- ---- times

fine_minutes : (text : List ℕ) → Fine (offset_minute text)
unfolding offset_minute
fine_minutes [] = Fine.said
fine_minutes (b ∷ text) =
    fine_then (fine_byte 58 (trim_start (b ∷ text)))
    (λ rest. fine_then (fine_small 0 59 InvalidNumber rest tt) (λ _. Fine.said))

fine_signed : (positive : Bool) (text : List ℕ) → Fine (signed_offset positive text)
unfolding signed_offset
fine_signed positive text =
    fine_then (fine_small 0 23 InvalidNumber text tt)
    (λ hours. fine_then (fine_minutes (trim_start hours.1)) (λ _. Fine.said))

fine_offset : (text : List ℕ) → Fine (offset text)
unfolding offset
fine_offset text =
    fine_if (length text == 0) Fine.said
    (fine_if (begins_with 90 text) Fine.said
    (fine_if (begins_with 43 text) (fine_signed true (drop 1 text))
    (fine_if (begins_with 45 text) (fine_signed false (drop 1 text)) Fine.not_read)))

fine_seconds : (hour minute : ℕ) (text : List ℕ) → Fine (after_minute hour minute text)
unfolding after_minute
fine_seconds hour minute [] = Fine.said
fine_seconds hour minute (b ∷ text) =
    fine_then (fine_byte 58 (trim_start (b ∷ text)))
    (λ rest. fine_then (fine_small 0 59 InvalidNumber rest tt) (λ second. fine_then (fine_offset (trim_start second.1)) (λ _. Fine.said)))

fine_hours : (hour : ℕ) (text : List ℕ) → Fine (after_hour hour text)
unfolding after_hour
fine_hours hour [] = Fine.said
fine_hours hour (b ∷ text) =
    fine_then (fine_byte 58 (trim_start (b ∷ text)))
    (λ rest. fine_then (fine_small 0 59 InvalidNumber rest tt) (λ minute. fine_seconds hour minute.0 (trim_start minute.1)))

fine_time : (text : List ℕ) → Fine (after_day text)
unfolding after_day
fine_time [] = Fine.said
fine_time (b ∷ text) =
    fine_then (fine_byte 84 (b ∷ text))
    (λ rest. fine_then (fine_small 0 23 InvalidNumber rest tt) (λ hour. fine_hours hour.0 (trim_start hour.1)))

-- ---- a date in one text

fine_day : (y : ℤ) (m : ℕ) (text : List ℕ) → Fine (after_month y m text)
unfolding after_month
fine_day y m [] = Fine.said
fine_day y m (b ∷ text) =
    fine_then (fine_hyphens (b ∷ text))
    (λ rest. fine_then (fine_small 1 _ DayOutOfRange rest tt) (λ day. fine_then (fine_time (trim_start day.1)) (λ _. Fine.said)))

fine_month : (y : ℤ) (text : List ℕ) → Fine (after_year y text)
unfolding after_year
fine_month y [] = Fine.said
fine_month y (b ∷ text) =
    fine_then (fine_hyphens (b ∷ text))
    (λ rest. fine_then (fine_small 1 12 MonthOutOfRange rest tt) (λ month. fine_day y month.0 (trim_start month.1)))

fine_side : (text : List ℕ) → Fine (side text)
unfolding side
fine_side text = fine_then (fine_year text) (λ y. fine_month y.0 (trim_start y.1))

fine_all_months : (y : ℕ) (text : List ℕ) → Fine (all_months y text)
unfolding all_months
fine_all_months y text = fine_if _ Fine.said (fine_then (fine_hyphens text) (λ rest. fine_if _ Fine.said Fine.not_read))

fine_all_days : (y : ℕ) (text : List ℕ) → Fine (all_days y text)
unfolding all_days
fine_all_days y text =
    fine_then (fine_number 2 2 text)
    (λ month. fine_if _ (Fine.reported tt) (fine_then (fine_hyphens month.1) (λ rest. fine_if _ Fine.said Fine.not_read)))

fine_unknown_month : (y : ℕ) (text : List ℕ) → Fine (unknown_month y text)
unfolding unknown_month
fine_unknown_month y text = fine_if _ (fine_all_months y _) (fine_if _ (fine_all_days y text) Fine.not_read)

fine_century : (n : ℕ) (text : List ℕ) → Fine (century n text)
unfolding century
fine_century n text = fine_if _ Fine.said Fine.not_read

fine_decade : (n : ℕ) (text : List ℕ) → Fine (decade n text)
unfolding decade
fine_decade n text = fine_if _ Fine.said Fine.not_read

fine_four_digits : (y : ℕ) (text : List ℕ) → Fine (after_four_digits y text)
unfolding after_four_digits
fine_four_digits y text = fine_if _ (Fine.reported tt) (fine_then (fine_hyphens text) (λ rest. fine_unknown_month y (trim_start rest)))

fine_unknown : (text : List ℕ) → Fine (unknown text)
unfolding unknown
fine_unknown text =
    fine_if _ (Fine.reported tt)
    (fine_if _ (fine_century _ _)
    (fine_if _ (fine_decade _ _) (fine_if _ (fine_four_digits _ _) Fine.not_read)))

fine_range : (from to : List ℕ) → Fine (range from to)
unfolding range
fine_range from to =
    fine_if _ (fine_if _ (Fine.reported tt) (fine_then (fine_side to) (λ _. Fine.said)))
    (fine_then (fine_side from) (λ _. fine_if _ Fine.said (fine_then (fine_side to) (λ _. Fine.said))))

fine_value : (text : List ℕ) → Fine (date_value text)
unfolding date_value
fine_value text = fine_if _ (fine_unknown text) (fine_if _ (fine_range _ _) (fine_then (fine_side text) (λ _. Fine.said)))

fine_marked : (text : List ℕ) → Fine (marked_date text)
unfolding marked_date
fine_marked text = fine_then (fine_value (without_mark text)) (λ _. Fine.said)

-- ---- a date in three fields

fine_era : (has_sign : Bool) (n : ℕ) (y : ℤ) (following : List ℕ) → Fine (of_era has_sign n y following)
unfolding of_era
fine_era has_sign n y following =
    fine_if (starts_word following) Fine.not_read
    (fine_if has_sign (Fine.reported {kind = InvalidFormat} tt)
    (fine_if (n == 0) (Fine.reported {kind = YearZeroCE} tt) Fine.said))

fine_with_era : (has_sign is_minus : Bool) (n : ℕ) (text : List ℕ) → Fine (with_era has_sign is_minus n text)
unfolding with_era
fine_with_era has_sign is_minus n text =
    fine_if (stands (codes "AD") text) (fine_era has_sign n _ _)
    (fine_if (stands (codes "CE") text) (fine_era has_sign n _ _)
    (fine_if (stands (codes "BCE") text) (fine_era has_sign n _ _)
    (fine_if (stands (codes "BC") text) (fine_era has_sign n _ _) Fine.said)))

fine_year_field : (text : List ℕ) → Fine (year_field text)
unfolding year_field
fine_year_field text = fine_if _ (Fine.reported tt) (fine_if _ (fine_with_era _ _ _ _) Fine.not_read)

fine_month_field : (text : List ℕ) → Fine (month_field text)
unfolding month_field
fine_month_field text = fine_if _ (fine_if _ Fine.said (Fine.reported tt)) Fine.said

fine_reported : (day : Option ℕ) → Fine (reported_day day)
fine_reported (Some day) = Fine.said
fine_reported None = Fine.reported tt

fine_day_after : (text : List ℕ) → Fine (day_after text)
unfolding day_after
fine_day_after text = fine_if _ Fine.said (fine_if _ Fine.not_read (fine_reported _))

fine_only_day : (text : List ℕ) → Fine (only_day text)
unfolding only_day
fine_only_day text = fine_if _ (fine_reported _) Fine.not_read

fine_day_field : (text : List ℕ) → Fine (day_field text)
unfolding day_field
fine_day_field text = fine_if _ (fine_only_day _) (fine_only_day _)

fine_day_of : (day : Option (List ℕ)) (following : List ℕ) → Fine (day_of day following)
fine_day_of None following = fine_day_after following
fine_day_of (Some text) following = fine_day_field text

fine_month_and_day : (month day : Option (List ℕ)) → Fine (month_and_day month day)
unfolding month_with_day
fine_month_and_day None day = Fine.said
fine_month_and_day (Some text) day = fine_then (fine_month_field text) (λ month. fine_then (fine_day_of day month.1) (λ _. Fine.said))

fine_three_fields : (year : List ℕ) (month day : Option (List ℕ)) → Fine (three_fields_of year month day)
unfolding three_fields_of
fine_three_fields year month day = fine_then (fine_year_field year) (λ _. fine_then (fine_month_and_day month day) (λ _. Fine.said))

-- ---- specified kinds

promised : {A : Type 0} (r : Reading A) (kind : TypeErrorKind) → Fine r → r ≡ error kind → IsDateKind kind
promised (says a) kind fine is = cc
promised unread kind fine is = cc
promised (error promise) kind (Fine.reported fine) is = let same : promise ≡ kind = cc in subst IsDateKind same fine

pub promised_date : (text : List ℕ) (kind : TypeErrorKind) → date_of text ≡ error kind → IsDateKind kind
promised_date text kind = promised (date_of text) kind (fine_marked (trim_end (str_to_ascii_uppercase text)))

pub promised_three_fields : (year : List ℕ) (month day : Option (List ℕ)) (kind : TypeErrorKind)
    → three_fields_of year month day ≡ error kind → IsDateKind kind
promised_three_fields year month day kind = promised (three_fields_of year month day) kind (fine_three_fields year month day)
