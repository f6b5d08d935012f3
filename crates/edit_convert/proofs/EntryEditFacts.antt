-- The edits of an entry, by the changes that the code finds for it.
use Rattle.std.proofs.Common.{◌≡◌, ℕ, Bool, List, ◌++◌, ap, ◌∙◌, append_assoc, Option, Result, Ok, Err}
use Rattle.std.specs.Prelude.{OnOk}
use Rattle.std.specs.Option.{option_map}
use Rattle.std.specs.String.{string_bytes}
use Rattle.bib_syntax.specs.Reading.{EntryReading, FieldReading}
use Rattle.bib_tables.specs.EntryType.{entry_type_of}
use Rattle.bib_tables.specs.declared.dialects.Dialect.{Dialect}
use Rattle.bib_tables.specs.declared.mechanics.EntryType.{EntryType}
use Rattle.edit_entries.specs.Changes.{edits_of_fields, part_edits}
use Rattle.edit_entries.specs.Edits.{Edit}
use Rattle.edit_convert.specs.Conversions.{Replacement, date_if_divided, date_if_part, divides_date, field_changes, field_replacement, first_replacement, free_names, joined_date, keeps_one, missing_type, other_name, other_names, printed_type, type_for, type_if_named, with_missing_type}
use Rattle.edit_convert.specs.Tables.{change_edits, conversion_edits, replacement_by, lent_names, printed_of}
use Rattle.edit_convert.specs.Types.{PrintedType}
use Rattle.edit_convert.specs.declared.changes.Changes.{Changes}

-- the replacement of a field, by the changes of its entry
abbrev replacement_from : Bool → Option (List ℕ) → List (List ℕ × List ℕ) → Option PrintedType → Bool → FieldReading → Option Replacement
replacement_from defines date names type divides f =
    first_replacement defines (date_if_part date f) (other_name names f.name.text) (type_if_named type f) (date_if_divided divides f)

-- the changes that the code finds for an entry are those of the conversion
pub record IsFound (dialect : Dialect) (defines : Bool) (text : List ℕ) (e : EntryReading) (kind : EntryType)
    (changes : Changes) : Type 0 where
  pub kind_is : kind ≡ entry_type_of e.kind.text
  pub defines_is : changes.defines ≡ defines
  pub names : lent_names changes.names.items ≡ free_names e.fields (other_names dialect kind)
  pub printed : printed_of changes.printed ≡ printed_type dialect kind e.fields
  pub divides : changes.divides ≡ divides_date dialect e.fields
  pub joined : option_map string_bytes changes.joined ≡ joined_date dialect defines text e.fields

-- the replacements by these changes are those of the entry's fields
pub found_replacements : (dialect : Dialect) (defines : Bool) (text : List ℕ) (e : EntryReading) (kind : EntryType) (changes : Changes)
    → IsFound dialect defines text e kind changes → replacement_by changes ≡ field_replacement dialect defines text e
found_replacements dialect defines text e kind changes found =
    let date : Option (List ℕ) = joined_date dialect defines text e.fields in
    let names : EntryType → List (List ℕ × List ℕ) = λ (k : EntryType). free_names e.fields (other_names dialect k) in
    let divides : Bool = divides_date dialect e.fields in
    let by : Bool → FieldReading → Option Replacement =
    λ (b : Bool).
    replacement_from b (option_map string_bytes changes.joined) (lent_names changes.names.items) (printed_of changes.printed)
    changes.divides in
    ap by found.defines_is
    ∙ ap (λ t. replacement_from defines t (lent_names changes.names.items) (printed_of changes.printed) changes.divides) found.joined
    ∙ ap (λ ns. replacement_from defines date ns (printed_of changes.printed) changes.divides) found.names
    ∙ ap (λ p. replacement_from defines date (names kind) p changes.divides) found.printed
    ∙ ap (replacement_from defines date (names kind) (printed_type dialect kind e.fields)) found.divides
    ∙ ap (λ k. replacement_from defines date (names k) (printed_type dialect k e.fields) divides) found.kind_is

pub entry_edited : {A E : Type 0} (r : Result A E) (old mid new : List Edit) (dialect : Dialect) (defines : Bool)
    (text : List ℕ) (e : EntryReading) (kind : EntryType) (changes : Changes) (other missing : Option (List ℕ))
    → IsFound dialect defines text e kind changes → missing ≡ missing_type dialect kind e.fields
    → other ≡ type_for dialect kind (printed_of changes.printed) missing (keeps_one (replacement_by changes) e.fields)
    → mid ≡ old ++ part_edits e.kind other → OnOk r (new ≡ mid ++ change_edits changes text e.fields missing e.fields)
    → OnOk r (new ≡ old ++ conversion_edits dialect defines text e)
entry_edited (Err x) old mid new dialect defines text e kind changes other missing found missing_is other_is mid_is new_is = _
entry_edited (Ok x) old mid new dialect defines text e kind changes other missing found missing_is other_is mid_is new_is =
    let made : EntryType → Option PrintedType → Option (List ℕ) → (FieldReading → Option Replacement) → List Edit =
    λ (k : EntryType) (p : Option PrintedType) (m : Option (List ℕ)) (x : FieldReading → Option Replacement).
    part_edits e.kind (type_for dialect k p m (keeps_one x e.fields))
    ++ edits_of_fields text e.fields (with_missing_type text e.fields m e.fields (field_changes text e.fields x e.fields)) in
    let by_kind : EntryType → List Edit =
    λ (k : EntryType).
    made k (printed_type dialect k e.fields) (missing_type dialect k e.fields) (field_replacement dialect defines text e) in
    new_is ∙ ap (λ m. m ++ change_edits changes text e.fields missing e.fields) (mid_is ∙ ap (λ o. old ++ part_edits e.kind o) other_is)
    ∙ append_assoc old
    (part_edits e.kind (type_for dialect kind (printed_of changes.printed) missing (keeps_one (replacement_by changes) e.fields)))
    (change_edits changes text e.fields missing e.fields)
    ∙ ap (λ x. old ++ made kind (printed_of changes.printed) missing x) (found_replacements dialect defines text e kind changes found)
    ∙ ap (λ p. old ++ made kind p missing (field_replacement dialect defines text e)) found.printed
    ∙ ap (λ m. old ++ made kind (printed_type dialect kind e.fields) m (field_replacement dialect defines text e)) missing_is
    ∙ ap (λ k. old ++ by_kind k) found.kind_is
