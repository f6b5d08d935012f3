-- The fields of a date's parts: each can be inserted.
use Rattle.std.proofs.Common.{◌≡◌, ℕ, ◌+◌, ◌-◌, ◌<◌, Bool, true, false, cond, List, [], ◌∷◌, ◌++◌, length, take, drop, refl, sym, ap, ◌∙◌, subst, arith, length-append, Option, Some, None}
use Rattle.std.specs.Prelude.{◌&&◌, ◌==◌, is_some, nat_lt}
use Rattle.std.specs.Char.{is_ascii_digit}
use Rattle.std.specs.List.{AllByRecursion, list_all, slice_split}
use Rattle.std.proofs.lemmas.Bool.{and_parts}
use Rattle.std.proofs.lemmas.Bool.Decides.{nat_tests}
use Rattle.std.proofs.lemmas.List.{drop-drop, drop_at, take_all, take_at}
use Rattle.bib_text.specs.Braces.{Parts, is_plain}
use Rattle.bib_text.specs.Braces.{Parts as parts}
use Rattle.bib_text.specs.Enums.{value_named}
use Rattle.bib_tables.specs.Months.{month_abbreviation, month_name}
use Rattle.bib_tables.specs.declared.months.Month.{Month}
use Rattle.bib_tables.specs.declared.months.Month.TheVariants.{January, February, March, April, May, June, July, August, September, October, November, December}
use Rattle.bib_text.specs.Places.{place, between}
use Rattle.bib_syntax.specs.Reading.{Part}
use Rattle.bib_syntax.specs.Reading.Piece.{literal}
use Rattle.bib_syntax.specs.Grammar.{Braced, Element, Identifier, longest}
use Rattle.edit_entries.specs.Documents.{CanBeName, in_braces, text_at}
use Rattle.edit_entries.proofs.EditFacts.{ascii_stands}
use Rattle.edit_strings.specs.Collected.{name_value}
use Rattle.edit_strings.specs.Collecting.{is_plain_name}
use Rattle.edit_strings.proofs.NameFacts.{plain_can}
use Rattle.edit_entries.proofs.NewValueFacts.{CanBeRead}
use Rattle.bib_dates.specs.Dates.{date_of}
use Rattle.bib_dates.specs.Readings.{readable_value}
use Rattle.bib_dates.proofs.DatesReread.{is_date_byte, digit_bytes}
use Rattle.edit_entries.proofs.FitFacts.{whole_bytes}
use Rattle.edit_convert.specs.Dates.{Side, SideNames, Sides, are_digits, date_sides, day_fields, from_names, month_as_field, month_fields, month_side, more_fields, numbered_months, side_in, side_of, sides_of, one_side, two_sides, to_fields, to_names, side_year}
use Rattle.edit_entries.specs.Changes.{braced_field}
use Rattle.edit_entries.proofs.NewFieldFacts.{CanBePut, element_read}
use Rattle.bib_text.proofs.ListFacts.{all_append, passed_weaker}

-- ---- ASCII texts without braces and backslashes, in braces

-- whether a byte is a character of ASCII that is neither a brace nor a backslash
abbrev pub is_plain_ascii : ℕ → Bool
is_plain_ascii c = nat_lt c 128 && is_plain c

byte_plain : (c : ℕ) → is_plain_ascii c ≡ true → (c < 128) × (is_plain c ≡ true)
byte_plain c digit = (grind (arith, nat_tests), grind (arith, nat_tests))

bytes_parts : (whole : List ℕ) (at : ℕ) (bs rest : List ℕ) → drop at whole ≡ bs ++ rest
    → list_all is_plain_ascii bs ≡ true → Parts (place whole at) (place whole (at + length bs))
bytes_parts whole at [] rest here all =
    let same : at ≡ at + 0 = omega arith in subst (λ n. Parts (place whole at) (place whole n)) same parts.none
bytes_parts whole at (b ∷ bs) rest here all =
    let both = and_parts (is_plain_ascii b) (list_all is_plain_ascii bs) all in
    let fits = byte_plain b both.0 in
    let next : at + 1 + length bs ≡ at + length (b ∷ bs) = omega arith in
    subst (λ n. Parts (place whole at) (place whole n)) next
    (parts.plain (ascii_stands whole (bs ++ rest) at b fits.0 here) fits.1
    (bytes_parts whole (at + 1) bs rest (sym (drop-drop 1 at whole) ∙ ap (drop 1) here) both.1))

-- in braces, such a text parses to one literal with this text
pub plain_read : (text : List ℕ) → list_all is_plain_ascii text ≡ true
    → CanBeRead (record { bytes = in_braces text; pieces = literal (text_at 1 text) ∷ [] })
plain_read text all =
    let whole : List ℕ = in_braces text in
    let last : ℕ = 1 + length text in
    let closing : drop last whole ≡ 125 ∷ [] = sym (drop-drop (length text) 1 whole) ∙ drop_at text (125 ∷ []) (length text) refl in
    let braced : Braced (place whole 0) (text_at 1 text) (place whole (last + 1)) = record {
      inside = place whole 1;
      following = place whole last;
      opens = ascii_stands whole (text ++ 125 ∷ []) 0 123 (omega arith) refl;
      parts = bytes_parts whole 1 text (125 ∷ []) refl all;
      closes = ascii_stands whole [] last 125 (omega arith) closing;
      reading =
          let size : last - 1 ≡ length text = omega arith in
          ap (λ t. let p : Part = record { text = t; start = 1; end = last } in p)
          (sym (ap (λ n. take n (text ++ 125 ∷ [])) size ∙ take_at text (125 ∷ []) (length text) refl));
    } in
    let size : length whole ≡ last + 1 = omega (arith, length-append text (125 ∷ [])) in
    let all_bytes : last + 1 - 0 ≡ length whole = omega (arith, size) in
    element_read {a = place whole 0} whole (Element.braced braced) (omega (arith, size))
    (ap (λ n. take n whole) all_bytes ∙ take_all (length whole) whole (omega arith))

date_plain : (c : ℕ) → is_date_byte c ≡ true → is_plain_ascii c ≡ true
date_plain c digit = grind (arith, nat_tests)

-- in braces, digits and hyphens parse to one literal with this text
pub date_bytes_read : (text : List ℕ) → list_all is_date_byte text ≡ true
    → CanBeRead (record { bytes = in_braces text; pieces = literal (text_at 1 text) ∷ [] })
date_bytes_read text all = plain_read text (passed_weaker is_date_byte is_plain_ascii date_plain text all)

-- in braces, digits parse to one literal with this text
digits_read : (text : List ℕ) → list_all is_ascii_digit text ≡ true
    → CanBeRead (record { bytes = in_braces text; pieces = literal (text_at 1 text) ∷ [] })
digits_read text all = date_bytes_read text (digit_bytes text all)

-- a plain name parses to an abbreviation
name_read : (name : List ℕ) → is_plain_name name ≡ true → CanBeRead (name_value name)
name_read name is =
    let can = plain_can name is in
    let i : Identifier longest (place name 0) (text_at 0 name) (place name (length name)) =
    subst (λ p. Identifier longest (place name 0) p (place name (length name))) (name_part can.0) can.0.1 in
    element_read {a = place name 0} name (Element.named can.1 i) (omega arith) (whole_bytes name)
  where
    name_part : (can : CanBeName name) → can.0 ≡ text_at 0 name
    name_part can =
        let size : length name - 0 ≡ length name = omega arith in
        let bytes : between (place name 0) (place name (length name)) ≡ name =
        ap (λ n. take n name) size ∙ take_all (length name) name (omega arith) in
        let end : length name ≡ 0 + length name = omega arith in
        can.1.reading ∙ ap (λ t. let p : Part = record { text = t; start = 0; end = length name } in p) bytes
        ∙ ap (λ n. let p : Part = record { text = name; start = 0; end = n } in p) end

-- ---- the parts of a date

-- the year and the day of a side are digits
record IsKnown (side : Side) : Type 0 where
  year : list_all is_ascii_digit side.year ≡ true
  day : (text : List ℕ) → side.day ≡ Some text → list_all is_ascii_digit text ≡ true

digits_of : (count : ℕ) (text : List ℕ) → are_digits count text ≡ true → list_all is_ascii_digit text ≡ true
digits_of count text is = (and_parts (length text == count) (list_all is_ascii_digit text) is).1

month_known : (year : List ℕ) (month : Option Month) (day : Option (List ℕ)) (side : Side) → list_all is_ascii_digit year ≡ true
    → ((text : List ℕ) → day ≡ Some text → list_all is_ascii_digit text ≡ true) → month_side year month day ≡ Some side
    → IsKnown side
month_known year None day side digits days is = absurd (cc)
month_known year (Some month) day side digits days is =
    let made : Side = record { year = year; month = Some month; day = day } in
    let same : made ≡ side = cc in
    let known : IsKnown made = record { year = digits; day = days } in
    subst IsKnown same known

year_case : (b : Bool) (year : List ℕ) (side : Side) → (b ≡ true → list_all is_ascii_digit year ≡ true)
    → cond b (Some (record { year = year; month = None; day = None })) None ≡ Some side → IsKnown side
year_case false year side digits is = absurd (cc)
year_case true year side digits is =
    let made : Side = record { year = year; month = None; day = None } in
    let same : made ≡ side = cc in
    let known : IsKnown made = record { year = digits refl; day = λ t given. absurd (cc) } in
    subst IsKnown same known

month_case : (b : Bool) (found : Option Side) (side : Side) → (b ≡ true → found ≡ Some side → IsKnown side)
    → cond b found None ≡ Some side → IsKnown side
month_case false found side known is = absurd (cc)
month_case true found side known is = known refl is

side_known : (parts : List (List ℕ)) (side : Side) → side_of parts ≡ Some side → IsKnown side
side_known [] side is = absurd (cc)
side_known (year ∷ []) side is = year_case (are_digits 4 year) year side (digits_of 4 year) is
side_known (year ∷ month ∷ []) side is =
    month_case (are_digits 4 year) (month_side year (value_named numbered_months month) None) side
    (λ digits.
    month_known year (value_named numbered_months month) None side (digits_of 4 year digits) (λ t given. absurd (cc))) is
side_known (year ∷ month ∷ day ∷ []) side is =
    month_case (are_digits 4 year && are_digits 2 day) (month_side year (value_named numbered_months month) (Some day)) side (λ digits.
    let both = and_parts (are_digits 4 year) (are_digits 2 day) digits in
    month_known year (value_named numbered_months month) (Some day) side (digits_of 4 year both.0)
    (day_digits day (digits_of 2 day both.1))) is
  where
    day_digits : (day : List ℕ) → list_all is_ascii_digit day ≡ true → (text : List ℕ) → Some day ≡ Some text
        → list_all is_ascii_digit text ≡ true
    day_digits day digits text given = let same : day ≡ text = cc in subst (λ t. list_all is_ascii_digit t ≡ true) same digits
side_known (year ∷ month ∷ day ∷ other ∷ rest) side is = absurd (cc)

-- the years and the days of both sides are digits
pub record AreKnown (sides : Sides) : Type 0 where
  from : IsKnown sides.from
  to : (side : Side) → sides.to ≡ Some side → IsKnown side

one_known : (side : Option Side) (sides : Sides) → ((s : Side) → side ≡ Some s → IsKnown s) → one_side side ≡ Some sides → AreKnown sides
one_known None sides known is = absurd (cc)
one_known (Some from) sides known is =
    let made : Sides = record { from = from; to = None } in
    let same : made ≡ sides = cc in
    let all : AreKnown made = record { from = known from refl; to = λ s given. absurd (cc) } in
    subst AreKnown same all

two_known : (from to : Option Side) (sides : Sides) → ((s : Side) → from ≡ Some s → IsKnown s)
    → ((s : Side) → to ≡ Some s → IsKnown s) → two_sides from to ≡ Some sides → AreKnown sides
two_known None to sides known known' is = absurd (cc)
two_known (Some from) None sides known known' is = absurd (cc)
two_known (Some from) (Some to) sides known known' is =
    let made : Sides = record { from = from; to = Some to } in
    let same : made ≡ sides = cc in
    let all : AreKnown made = record { from = known from refl; to = known' } in
    subst AreKnown same all

sides_known : (texts : List (List ℕ)) (sides : Sides) → sides_of texts ≡ Some sides → AreKnown sides
sides_known [] sides is = absurd (cc)
sides_known (from ∷ []) sides is = one_known (side_in from) sides (side_known (slice_split (λ c. c == 45) from)) is
sides_known (from ∷ to ∷ []) sides is =
    two_known (side_in from) (side_in to) sides (side_known (slice_split (λ c. c == 45) from))
    (side_known (slice_split (λ c. c == 45) to)) is
sides_known (from ∷ to ∷ other ∷ rest) sides is = absurd (cc)

date_case : (b : Bool) (found : Option Sides) (sides : Sides) → (found ≡ Some sides → AreKnown sides)
    → cond b found None ≡ Some sides → AreKnown sides
date_case false found sides known is = absurd (cc)
date_case true found sides known is = known is

pub date_known : (text : List ℕ) (sides : Sides) → date_sides text ≡ Some sides → AreKnown sides
date_known text sides is =
    date_case (is_some (readable_value (date_of text))) (sides_of (slice_split (λ c. c == 47) text)) sides
    (sides_known (slice_split (λ c. c == 47) text) sides) is

-- ---- the fields of these parts

-- the names of a side's fields are plain
record ArePlain (names : SideNames) : Type 0 where
  year : is_plain_name names.year ≡ true
  month : is_plain_name names.month ≡ true
  day : is_plain_name names.day ≡ true

digits_put : (name text : List ℕ) → is_plain_name name ≡ true → list_all is_ascii_digit text ≡ true → CanBePut (braced_field name text)
digits_put name text plain digits = record { name = (plain_can name plain).0; value = digits_read text digits }

month_plain : (month : Month) → (is_plain_name (month_abbreviation month) ≡ true) × (list_all is_plain_ascii (month_name month) ≡ true)
month_plain January = (refl, refl)
month_plain February = (refl, refl)
month_plain March = (refl, refl)
month_plain April = (refl, refl)
month_plain May = (refl, refl)
month_plain June = (refl, refl)
month_plain July = (refl, refl)
month_plain August = (refl, refl)
month_plain September = (refl, refl)
month_plain October = (refl, refl)
month_plain November = (refl, refl)
month_plain December = (refl, refl)

month_put : (defines : Bool) (name : List ℕ) (month : Month) → is_plain_name name ≡ true → CanBePut (month_as_field defines name month)
month_put true name month plain =
    record { name = (plain_can name plain).0; value = plain_read (month_name month) (month_plain month).1 }
month_put false name month plain =
    record { name = (plain_can name plain).0; value = name_read (month_abbreviation month) (month_plain month).0 }

months_put : (defines : Bool) (name : List ℕ) (month : Option Month) → is_plain_name name ≡ true
    → AllByRecursion CanBePut (month_fields defines name month)
months_put defines name None plain = tt
months_put defines name (Some month) plain = (month_put defines name month plain, tt)

days_put : (name : List ℕ) (day : Option (List ℕ)) → is_plain_name name ≡ true
    → ((t : List ℕ) → day ≡ Some t → list_all is_ascii_digit t ≡ true) → AllByRecursion CanBePut (day_fields name day)
days_put name None plain known = tt
days_put name (Some day) plain known = (digits_put name day plain (known day refl), tt)

more_put : (defines : Bool) (names : SideNames) (side : Side) → ArePlain names → IsKnown side
    → AllByRecursion CanBePut (more_fields defines names side)
more_put defines names side plain known =
    all_append CanBePut (month_fields defines names.month side.month) (day_fields names.day side.day)
    (months_put defines names.month side.month plain.month) (days_put names.day side.day plain.day known.day)

to_put : (defines : Bool) (to : Option Side) → ((side : Side) → to ≡ Some side → IsKnown side)
    → AllByRecursion CanBePut (to_fields defines to)
to_put defines None known = tt
to_put defines (Some side) known =
    let plain : ArePlain to_names = record { year = refl; month = refl; day = refl } in
    (digits_put to_names.year side.year plain.year (known side refl).year, more_put defines to_names side plain (known side refl))

pub sides_put : (defines : Bool) (sides : Sides) → AreKnown sides
    → CanBePut (side_year from_names sides.from)
    × AllByRecursion CanBePut (more_fields defines from_names sides.from ++ to_fields defines sides.to)
sides_put defines sides known =
    let plain : ArePlain from_names = record { year = refl; month = refl; day = refl } in (
      digits_put from_names.year sides.from.year plain.year known.from.year,
      all_append CanBePut (more_fields defines from_names sides.from) (to_fields defines sides.to)
          (more_put defines from_names sides.from plain known.from) (to_put defines sides.to known.to),
    )
