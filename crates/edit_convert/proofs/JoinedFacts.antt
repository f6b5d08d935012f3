-- The parts of a date among an entry's fields, if they are joined.
use Rattle.std.proofs.Common.{◌≡◌, ℕ, Bool, true, false, cond, List, Option, Some, None, refl}
use Rattle.std.specs.Prelude.{◌&&◌, codes}
use Rattle.std.specs.List.{find}
use Rattle.std.proofs.lemmas.Bool.{and_parts}
use Rattle.bib_syntax.specs.Reading.{FieldReading}
use Rattle.edit_entries.specs.Documents.{has_name}
use Rattle.bib_tables.specs.declared.dialects.Dialect.{Dialect}
use Rattle.bib_tables.specs.declared.dialects.Dialect.TheVariants.{Biblatex, Bibtex}
use Rattle.edit_strings.specs.Collected.{single_text}
use Rattle.edit_strings.proofs.NameFacts.{plain_can}
use Rattle.edit_convert.specs.Conversions.{keep_comments, date_field, date_of_fields, date_of_parts, date_on_day, has_parts_once, joined_date, literal_of, month_of}
use Rattle.edit_convert.proofs.DateFacts.{date_bytes_read}
use Rattle.edit_entries.proofs.NewFieldFacts.{CanBePut}
use Rattle.edit_convert.proofs.JoinedTextFacts.{IsJoined, joined_bytes, joined_known}

-- a year, a month and perhaps a day with this date
pub record ArePartsOf (years months : Option (List ℕ)) (day : Option FieldReading) (date : List ℕ) : Type 0 where
  pub year : List ℕ
  pub month : List ℕ
  pub year_is : years ≡ Some year
  pub month_is : months ≡ Some month
  pub joined : IsJoined year month (literal_of day) date

day_known : (year month : List ℕ) (day : Option (List ℕ)) (date : List ℕ) → date_on_day year month day ≡ Some date
    → IsJoined year month day date
day_known year month None date is = absurd (cc)
day_known year month (Some day) date is = joined_known year month (Some day) date is

parts_known : (years months : Option (List ℕ)) (day : Option FieldReading) (date : List ℕ)
    → date_of_parts years months day ≡ Some date → ArePartsOf years months day date
parts_known None months day date is = absurd (cc)
parts_known (Some year) None day date is = absurd (cc)
parts_known (Some year) (Some month) None date is = record {
  year = year;
  month = month;
  year_is = refl;
  month_is = refl;
  joined = joined_known year month None date is;
}
parts_known (Some year) (Some month) (Some f) date is = record {
  year = year;
  month = month;
  year_is = refl;
  month_is = refl;
  joined = day_known year month (single_text f.value.pieces) date is;
}

-- each part of a date occurs once among the fields, except that there may be no day, and the date is joined from them
pub record IsJoinedDate (defines : Bool) (fields : List FieldReading) (date : List ℕ) : Type 0 where
  pub once : has_parts_once fields ≡ true
  pub parts : ArePartsOf (literal_of (find (has_name (codes "year")) fields))
      (month_of defines (find (has_name (codes "month")) fields)) (find (has_name (codes "day")) fields) date

read_case : (defines : Bool) (fields : List FieldReading) (date : List ℕ) (b : Bool)
    → (b ≡ true → has_parts_once fields ≡ true) → cond b (date_of_fields defines fields) None ≡ Some date
    → IsJoinedDate defines fields date
read_case defines fields date false once is = absurd (cc)
read_case defines fields date true once is =
    record {
      once = once refl;
      parts =
          parts_known (literal_of (find (has_name (codes "year")) fields))
          (month_of defines (find (has_name (codes "month")) fields)) (find (has_name (codes "day")) fields) date is;
    }

pub joined_read : (dialect : Dialect) (defines : Bool) (text : List ℕ) (fields : List FieldReading) (date : List ℕ)
    → joined_date dialect defines text fields ≡ Some date → IsJoinedDate defines fields date
joined_read Bibtex defines text fields date is = absurd (cc)
joined_read Biblatex defines text fields date is =
    let clear : Bool = keep_comments text fields in
    read_case defines fields date (has_parts_once fields && clear) (λ both. (and_parts (has_parts_once fields) clear both).0) is

-- the field of a joined date can be inserted
pub joined_put : (dialect : Dialect) (defines : Bool) (text : List ℕ) (fields : List FieldReading) (date : List ℕ)
    → joined_date dialect defines text fields ≡ Some date → CanBePut (date_field date)
joined_put dialect defines text fields date is =
    let parts = (joined_read dialect defines text fields date is).parts in
    record {
      name = (plain_can (codes "date") refl).0;
      value =
          date_bytes_read date
          (joined_bytes parts.year parts.month (literal_of (find (has_name (codes "day")) fields)) date parts.joined);
    }
