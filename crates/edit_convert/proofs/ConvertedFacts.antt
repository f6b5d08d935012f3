-- The changes of a conversion can be made.
use Rattle.std.proofs.Common.{◌≡◌, ℕ, ◌≤◌, Bool, true, false, cond, List, [], ◌∷◌, codes, length, refl, subst, sym, Option, Some, None}
use Rattle.std.specs.List.{AllByRecursion, list_any}
use Rattle.bib_syntax.specs.Reading.{EntryReading, FieldReading}
use Rattle.bib_tables.specs.declared.dialects.Dialect.{Dialect}
use Rattle.edit_entries.specs.Changes.{FieldChange, braced_value}
use Rattle.edit_entries.specs.Documents.{Document, IsDocument}
use Rattle.edit_entries.specs.FieldTexts.{HaveFieldsPlaced}
use Rattle.edit_entries.specs.Layouts.{sign_at}
use Rattle.edit_entries.specs.Placed.{IsNamePlaced}
use Rattle.edit_entries.proofs.ChangesFacts.{CanChange, CanEntryChange, CanFieldsChange}
use Rattle.bib_text.proofs.ListFacts.{all_weaker}
use Rattle.edit_entries.proofs.FieldEditFacts.{fields_placed}
use Rattle.edit_entries.proofs.LayoutFacts.{signs_at}
use Rattle.edit_entries.proofs.NewFieldFacts.{CanBePut}
use Rattle.edit_entries.proofs.WhiteBeforeFacts.{before_white}
use Rattle.bib_tables.specs.EntryType.{entry_type_of}
use Rattle.edit_convert.specs.Conversions.{Replacement, can_be_removed, conversion, date_field, field_change, field_changes, field_replacement, is_date_part, keeps_one, missing_type, printed_type, with_missing_type}
use Rattle.edit_convert.specs.Tables.{AreFieldsInText, pending_after, pending_change}
use Rattle.edit_convert.proofs.PendingFacts.{first_change}
use Rattle.edit_convert.specs.Types.{type_field}
use Rattle.edit_convert.proofs.TypeFacts.{missing_put, type_printed}
use Rattle.edit_convert.proofs.ChangeFacts.{CanBeMade, change_known}
use Rattle.edit_convert.proofs.NewNameFacts.{type_known}

-- if a part of a date is among the following fields, a field follows
one_follows : (following : List FieldReading) → list_any is_date_part following ≡ true
    → (g : FieldReading) × (gs : List FieldReading) × (following ≡ g ∷ gs)
one_follows [] any = absurd (cc)
one_follows (g ∷ gs) any = (g, gs, refl)

joined_can : (text : List ℕ) (fields : List FieldReading) (f : FieldReading) (following : List FieldReading) (date : List ℕ) (more : Bool)
    → list_any is_date_part following ≡ more → CanBePut (date_field date)
    → CanChange following (cond more FieldChange.removed (FieldChange.replaced (sign_at text f fields) (date_field date) [] []))
joined_can text fields f following date true any can = one_follows following any
joined_can text fields f following date false any can = (signs_at text f fields, can, tt, tt)

-- a field `type` can be removed or get the text, since it is only removed if a field follows
typed_can : (text : List ℕ) (f : FieldReading) (following : List FieldReading) (printed : List ℕ) (goes : Bool)
    → can_be_removed text f following ≡ goes → CanBePut (type_field printed)
    → CanChange following (cond goes FieldChange.removed (FieldChange.valued (braced_value printed)))
typed_can text f [] printed true is can = absurd (cc)
typed_can text f (g ∷ gs) printed true is can = (g, gs, refl)
typed_can text f following printed false is can = can.value

field_can : (text : List ℕ) (fields : List FieldReading) (f : FieldReading) (following : List FieldReading) (o : Option Replacement)
    → f.name.start ≤ length text → CanBeMade o → CanChange following (field_change text fields f following o)
field_can text fields f following None within can = tt
field_can text fields f following (Some (Replacement.with_name name)) within can = can
field_can text fields f following (Some (Replacement.with_type printed)) within can =
    typed_can text f following printed (can_be_removed text f following) refl can
field_can text fields f following (Some (Replacement.with_parts defines sides)) within can =
    (signs_at text f fields, can.0, can.1, before_white text f.name.start within)
field_can text fields f following (Some (Replacement.with_date date)) within can =
    joined_can text fields f following date (list_any is_date_part following) refl can

-- a value of `type` that is still to be added can be inserted
abbrev CanBePending : Option (List ℕ) → Type 0
CanBePending pending = (value : List ℕ) → pending ≡ Some value → CanBePut (type_field value)

pending_can : (text : List ℕ) (fields : List FieldReading) (f : FieldReading) (pending : Option (List ℕ)) (following : List FieldReading)
    (o : Option Replacement) → f.name.start ≤ length text → CanBePending pending → CanBeMade o
    → CanChange following (pending_change text fields f pending following o)
pending_can text fields f (Some value) following None within waits can =
    (waits value refl, signs_at text f fields (codes "type"), before_white text f.name.start within)
pending_can text fields f (Some value) following (Some o) within waits can = field_can text fields f following (Some o) within can
pending_can text fields f None following None within waits can = tt
pending_can text fields f None following (Some o) within waits can = field_can text fields f following (Some o) within can

stays_pending : (pending : Option (List ℕ)) (o : Option Replacement) → CanBePending pending → CanBePending (pending_after pending o)
stays_pending pending None waits value is = absurd (cc)
stays_pending pending (Some o) waits value is = waits value is

fields_can : (text : List ℕ) (fields : List FieldReading) (replacement : FieldReading → Option Replacement) (pending : Option (List ℕ))
    → ((f : FieldReading) → CanBeMade (replacement f)) → CanBePending pending → (fs : List FieldReading)
    → AllByRecursion (IsNamePlaced text) fs
    → CanFieldsChange fs (with_missing_type text fields pending fs (field_changes text fields replacement fs))
fields_can text fields replacement pending each waits [] names = tt
fields_can text fields replacement pending each waits (f ∷ fs) names =
    let after : Option (List ℕ) = pending_after pending (replacement f) in
    subst (CanFieldsChange (f ∷ fs))
    (sym (first_change text fields f pending fs (replacement f) (field_changes text fields replacement fs))) (
      pending_can text fields f pending fs (replacement f) names.0.start.0 waits (each f),
      fields_can text fields replacement after each (stays_pending pending (replacement f) waits) fs names.1,
    )

-- the changes for a dialect of entries whose fields may be cut out can be made
pub conversion_can : (dialect : Dialect) (defines : Bool) (text : List ℕ) (es : List EntryReading)
    → AllByRecursion (HaveFieldsPlaced text) es
    → AllByRecursion (λ e. CanEntryChange e (conversion dialect defines text e)) es
conversion_can dialect defines text [] placed = tt
conversion_can dialect defines text (e ∷ es) placed =
    let kind = entry_type_of e.kind.text in
    let missing = missing_type dialect kind e.fields in
    let replacement = field_replacement dialect defines text e in (
      record {
        kind =
            type_known dialect kind (printed_type dialect kind e.fields) missing (keeps_one replacement e.fields)
            (type_printed dialect kind e.fields);
        fields =
            fields_can text e.fields replacement missing (change_known dialect defines text e) (missing_put dialect kind e.fields)
            e.fields placed.0.names;
      },
      conversion_can dialect defines text es placed.1,
    )

-- the fields of a document may be cut out of its text
pub fields_in_text : (d : Document) → IsDocument d → AllByRecursion (λ e. AreFieldsInText d.text e.fields) d.says.entries
fields_in_text d read =
    all_weaker (HaveFieldsPlaced d.text) (λ e. AreFieldsInText d.text e.fields)
    (λ e placed. record { names = placed.names; values = placed.values; signs = placed.signs }) d.says.entries (fields_placed d read)
