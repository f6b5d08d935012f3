-- The replacement of a field can be written to a file.
use Rattle.std.proofs.Common.{◌≡◌, ℕ, Bool, true, false, cond, List, ◌++◌, refl, Option, Some, None}
use Rattle.std.specs.Prelude.{◌&&◌, codes}
use Rattle.std.specs.List.{AllByRecursion}
use Rattle.bib_syntax.specs.Reading.{EntryReading, FieldReading}
use Rattle.edit_entries.specs.Documents.{CanBeName, has_name}
use Rattle.bib_tables.specs.declared.dialects.Dialect.{Dialect}
use Rattle.edit_strings.specs.Collected.{single_text}
use Rattle.edit_convert.specs.Conversions.{Replacement, date_field, divides_date, date_to_divide, field_replacement, first_replacement, is_date_part, date_if_part, joined_date, new_field_name, printed_type, type_if_named, value_sides}
use Rattle.bib_tables.specs.EntryType.{entry_type_of}
use Rattle.edit_convert.specs.Types.{PrintedType, type_field}
use Rattle.edit_convert.proofs.TypeFacts.{typed_put}
use Rattle.edit_convert.specs.Dates.{Sides, from_names, more_fields, to_fields, side_year}
use Rattle.edit_convert.proofs.DateFacts.{AreKnown, date_known, sides_put}
use Rattle.edit_entries.proofs.NewFieldFacts.{CanBePut}
use Rattle.edit_convert.proofs.JoinedFacts.{joined_put}
use Rattle.edit_convert.proofs.NewNameFacts.{name_known}

-- the new name of a replacement can be a name, and its new fields can be inserted
abbrev pub CanBeMade : Option Replacement → Type 0
CanBeMade None = Unit {0}
CanBeMade (Some (Replacement.with_name name)) = CanBeName name
CanBeMade (Some (Replacement.with_type text)) = CanBePut (type_field text)
CanBeMade (Some (Replacement.with_parts defines sides)) =
    CanBePut (side_year from_names sides.from)
    × AllByRecursion CanBePut (more_fields defines from_names sides.from ++ to_fields defines sides.to)
CanBeMade (Some (Replacement.with_date date)) = CanBePut (date_field date)

value_known : (text : Option (List ℕ)) (sides : Sides) → value_sides text ≡ Some sides → AreKnown sides
value_known None sides is = absurd (cc)
value_known (Some text) sides is = date_known text sides is

date_case : (b : Bool) (text : Option (List ℕ)) (sides : Sides) → cond b (value_sides text) None ≡ Some sides → AreKnown sides
date_case false text sides is = absurd (cc)
date_case true text sides is = value_known text sides is

exchanged_known : (dialect : Dialect) (e : EntryReading) (f : FieldReading) (sides : Sides)
    → date_to_divide dialect e f ≡ Some sides → AreKnown sides
exchanged_known dialect e f sides is =
    date_case (has_name (codes "date") f && divides_date dialect e.fields) (single_text f.value.pieces) sides is

among_known : (b : Bool) (joined : Option (List ℕ)) (date : List ℕ) → cond b joined None ≡ Some date → joined ≡ Some date
among_known false joined date is = absurd (cc)
among_known true joined date is = is

made_case : (defines : Bool) (date name : Option (List ℕ)) (type : Option PrintedType) (sides : Option Sides)
    → ((t : List ℕ) → date ≡ Some t → CanBePut (date_field t)) → ((n : List ℕ) → name ≡ Some n → CanBeName n)
    → ((t : PrintedType) → type ≡ Some t → CanBePut (type_field t.text))
    → ((s : Sides) → sides ≡ Some s → AreKnown s) → CanBeMade (first_replacement defines date name type sides)
made_case defines (Some date) name type sides joined names types dates = joined date refl
made_case defines None (Some name) type sides joined names types dates = names name refl
made_case defines None None (Some type) sides joined names types dates = types type refl
made_case defines None None None (Some sides) joined names types dates = sides_put defines sides (dates sides refl)
made_case defines None None None None joined names types dates = tt

pub change_known : (dialect : Dialect) (defines : Bool) (text : List ℕ) (e : EntryReading) (f : FieldReading)
    → CanBeMade (field_replacement dialect defines text e f)
change_known dialect defines text e f =
    let joined : Option (List ℕ) = joined_date dialect defines text e.fields in
    let kind = entry_type_of e.kind.text in
    made_case defines (date_if_part joined f) (new_field_name dialect e f) (type_if_named (printed_type dialect kind e.fields) f)
    (date_to_divide dialect e f)
    (λ date is. joined_put dialect defines text e.fields date (among_known (is_date_part f) joined date is))
    (name_known dialect e f) (typed_put dialect kind e.fields f) (exchanged_known dialect e f)
