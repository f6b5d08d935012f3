-- A field gets no name that its entry already has, and a date no parts that its entry already has.
use Rattle.std.proofs.Common.{◌≡◌, ℕ, Bool, true, false, cond, List, [], ◌∷◌, refl, subst, Option, Some, None}
use Rattle.std.specs.Prelude.{◌&&◌, ◌==◌, codes, filter, length, nat_lt, not}
use Rattle.std.specs.List.{find, list_any}
use Rattle.std.proofs.lemmas.Bool.{and_parts, not-true}
use Rattle.bib_text.proofs.BoolFacts.{or_false_left}
use Rattle.bib_syntax.specs.Grammar.{is_word}
use Rattle.bib_syntax.specs.Reading.{EntryReading, FieldReading}
use Rattle.edit_entries.specs.Documents.{has_name}
use Rattle.bib_tables.specs.EntryType.{entry_type_of}
use Rattle.bib_tables.specs.declared.dialects.Dialect.{Dialect}
use Rattle.bib_tables.specs.declared.dialects.Dialect.TheVariants.{Biblatex, Bibtex}
use Rattle.edit_strings.specs.Collected.{single_text}
use Rattle.edit_convert.specs.Conversions.{divides_date, date_to_divide, free_names, is_field_there, joined_date, literal_of, new_field_name, other_date_names, other_name, other_names, times_named, value_sides}
use Rattle.edit_convert.specs.Dates.{Sides, part_names}
use Rattle.edit_convert.specs.Laws.{IsDateOfParts}
use Rattle.edit_convert.proofs.JoinedFacts.{joined_read}
use Rattle.edit_convert.proofs.JoinedTextFacts.{joined_same}

word_case : (fields : List FieldReading) (w : Bool) (other name : List ℕ) (rest : Option (List ℕ))
    → is_field_there fields other ≡ false → (rest ≡ Some name → is_field_there fields name ≡ false)
    → cond w (Some other) rest ≡ Some name → is_field_there fields name ≡ false
word_case fields true other name rest free later is = let same : other ≡ name = cc in subst (λ n. is_field_there fields n ≡ false) same free
word_case fields false other name rest free later is = later is

-- if no row gives a name that the entry has, none does after one more row. This row is only kept if the entry doesn't have its name.
row_case : (fields : List FieldReading) (b : Bool) (row : List ℕ × List ℕ) (rows : List (List ℕ × List ℕ))
    (text name : List ℕ) → is_field_there fields row.1 ≡ b
    → (other_name rows text ≡ Some name → is_field_there fields name ≡ false)
    → other_name (cond (not b) (row ∷ rows) rows) text ≡ Some name → is_field_there fields name ≡ false
row_case fields true row rows text name there later is = later is
row_case fields false row rows text name there later is =
    word_case fields (is_word text row.0) row.1 name (other_name rows text) there later is

found_free : (fields : List FieldReading) (rows : List (List ℕ × List ℕ)) (text name : List ℕ)
    → other_name (free_names fields rows) text ≡ Some name → is_field_there fields name ≡ false
found_free fields [] text name is = absurd (cc)
found_free fields (row ∷ rows) text name is =
    row_case fields (is_field_there fields row.1) row (free_names fields rows) text name refl
    (found_free fields rows text name) is

pub names_apart : (dialect : Dialect) (e : EntryReading) (f : FieldReading) (name : List ℕ)
    → new_field_name dialect e f ≡ Some name → is_field_there e.fields name ≡ false
names_apart dialect e f name is = found_free e.fields (other_names dialect (entry_type_of e.kind.text)) f.name.text name is

divides_apart : (dialect : Dialect) (fields : List FieldReading) → divides_date dialect fields ≡ true
    → list_any (is_field_there fields) part_names ≡ false
divides_apart Biblatex fields is = absurd (cc)
divides_apart Bibtex fields is =
    let there : Bool = list_any (is_field_there fields) part_names in
    not-true there (and_parts (length (filter (has_name (codes "date")) fields) == 1) (not there) is).1

sides_case : (b : Bool) (found : Option Sides) (sides : Sides) → cond b found None ≡ Some sides → b ≡ true
sides_case true found sides is = refl
sides_case false found sides is = absurd (cc)

pub parts_apart : (dialect : Dialect) (e : EntryReading) (f : FieldReading) (sides : Sides)
    → date_to_divide dialect e f ≡ Some sides → list_any (is_field_there e.fields) part_names ≡ false
parts_apart dialect e f sides is =
    let divides : Bool = divides_date dialect e.fields in
    let both = sides_case (has_name (codes "date") f && divides) (value_sides (single_text f.value.pieces)) sides is in
    divides_apart dialect e.fields (and_parts (has_name (codes "date") f) divides both).1

-- the parts of a date are joined only if there is no date
pub joined_apart : (dialect : Dialect) (defines : Bool) (text : List ℕ) (e : EntryReading) (date : List ℕ)
    → joined_date dialect defines text e.fields ≡ Some date → is_field_there e.fields (codes "date") ≡ false
joined_apart dialect defines text e date is =
    let fields : List FieldReading = e.fields in
    let there : Bool = list_any (is_field_there fields) other_date_names in
    let once = (joined_read dialect defines text fields date is).once in
    let years =
    and_parts (times_named fields (codes "year") == 1)
    ((times_named fields (codes "month") == 1) && (nat_lt (times_named fields (codes "day")) 2 && not there))
    once in
    let months = and_parts (times_named fields (codes "month") == 1) (nat_lt (times_named fields (codes "day")) 2 && not there) years.1 in
    let days = and_parts (nat_lt (times_named fields (codes "day")) 2) (not there) months.1 in
    or_false_left (is_field_there fields (codes "date"))
    (list_any (is_field_there fields) (codes "endyear" ∷ codes "endmonth" ∷ codes "endday" ∷ []))
    (not-true there days.1)

-- the date that replaces its parts is parsed as the date of these parts
pub joined_is_the_same : (dialect : Dialect) (defines : Bool) (text : List ℕ) (e : EntryReading) (date : List ℕ)
    → joined_date dialect defines text e.fields ≡ Some date → IsDateOfParts defines e.fields date
joined_is_the_same dialect defines text e date is =
    let known = (joined_read dialect defines text e.fields date is).parts in
    record {
      year = known.year;
      month = known.month;
      year_is = known.year_is;
      month_is = known.month_is;
      same = joined_same known.year known.month (literal_of (find (has_name (codes "day")) e.fields)) date known.joined;
    }
