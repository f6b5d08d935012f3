-- A missing value of `type`, which is added before the first field that is kept: the changes of fields from the first to the last, with
-- the value that is still to be added.
use Rattle.std.proofs.Common.{◌≡◌, ℕ, Bool, true, false, cond, List, [], ◌∷◌, refl, sym, ap, Option, Some, None}
use Rattle.std.specs.Prelude.{is_some}
use Rattle.std.specs.List.{list_any}
use Rattle.bib_syntax.specs.Reading.{FieldReading}
use Rattle.edit_entries.specs.Changes.{FieldChange, NewField, braced_value}
use Rattle.edit_entries.specs.Layouts.{sign_at}
use Rattle.edit_convert.specs.Conversions.{Replacement, can_be_removed, date_field, field_change, is_date_part, with_field_before_kept, with_missing_type}
use Rattle.edit_convert.specs.Tables.{pending_after, pending_change}
use Rattle.edit_convert.specs.Types.{type_field}

-- a field that is removed or replaced isn't kept, so the new field comes later
removed_or_other : (text : List ℕ) (fields : List FieldReading) (removes : Bool) (other : FieldChange) (new : NewField)
    (f : FieldReading) (fs : List FieldReading) (changes : List FieldChange)
    → with_field_before_kept text fields new (f ∷ fs) (other ∷ changes) ≡ other ∷ with_field_before_kept text fields new fs changes
    → with_field_before_kept text fields new (f ∷ fs) (cond removes FieldChange.removed other ∷ changes)
    ≡ cond removes FieldChange.removed other ∷ with_field_before_kept text fields new fs changes
removed_or_other text fields true other new f fs changes later = refl
removed_or_other text fields false other new f fs changes later = later

-- with a value that is to be added, the first change is that of the first field. The value may still be to be added to the others.
pub first_change : (text : List ℕ) (fields : List FieldReading) (f : FieldReading) (pending : Option (List ℕ))
    (following : List FieldReading) (o : Option Replacement) (changes : List FieldChange)
    → with_missing_type text fields pending (f ∷ following) (field_change text fields f following o ∷ changes)
    ≡ pending_change text fields f pending following o ∷ with_missing_type text fields (pending_after pending o) following changes
first_change text fields f None following None changes = refl
first_change text fields f None following (Some o) changes = refl
first_change text fields f (Some value) following None changes = refl
first_change text fields f (Some value) following (Some (Replacement.with_name name)) changes = refl
first_change text fields f (Some value) following (Some (Replacement.with_type printed)) changes =
    removed_or_other text fields (can_be_removed text f following) (FieldChange.valued (braced_value printed)) (type_field value) f
    following changes refl
first_change text fields f (Some value) following (Some (Replacement.with_parts defines sides)) changes = refl
first_change text fields f (Some value) following (Some (Replacement.with_date date)) changes =
    removed_or_other text fields (list_any is_date_part following)
    (FieldChange.replaced (sign_at text f fields) (date_field date) [] []) (type_field value) f following changes refl

-- a value that is to be added is still to be added after a field that is replaced
pub still_pending : (text : List ℕ) (fields : List FieldReading) (f : FieldReading) (pending : Option (List ℕ))
    (following : List FieldReading) (x : Option Replacement) → is_some x ≡ true
    → (field_change text fields f following x ≡ pending_change text fields f pending following x) × (pending ≡ pending_after pending x)
still_pending text fields f pending following None is = absurd (cc)
still_pending text fields f None following (Some x) is = (refl, refl)
still_pending text fields f (Some value) following (Some x) is = (refl, refl)

-- a value that is to be added is added before a field that is kept
pub added_before : (text : List ℕ) (fields : List FieldReading) (f : FieldReading) (pending : Option (List ℕ)) (value : List ℕ)
    (following : List FieldReading) (x : Option Replacement) → pending ≡ Some value → is_some x ≡ false
    → (pending_change text fields f (Some value) following None ≡ pending_change text fields f pending following x)
    × (None ≡ pending_after pending x)
added_before text fields f pending value following None same is =
    (ap (λ w. pending_change text fields f w following None) (sym same), refl)
added_before text fields f pending value following (Some x) same is = absurd (cc)

-- if no value is to be added, none is after a field
pub none_pending : (pending : Option (List ℕ)) (x : Option Replacement) → pending ≡ None → None ≡ pending_after pending x
none_pending pending None is = refl
none_pending pending (Some x) is = sym is
