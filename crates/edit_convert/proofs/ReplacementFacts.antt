-- The note on a field that is replaced, and on one that is kept.
use Rattle.std.proofs.Common.{◌≡◌, ℕ, Bool, true, false, cond, List, refl, sym, ap, ◌∙◌, Option, Some, None}
use Rattle.std.specs.Option.{option_and_then, option_map}
use Rattle.std.specs.Prelude.{is_some}
use Rattle.bib_syntax.specs.Reading.{FieldReading}
use Rattle.bib_tables.specs.declared.dialects.Dialect.{Dialect}
use Rattle.edit_convert.specs.Conversions.{Replacement, first_replacement}
use Rattle.edit_convert.specs.Dates.{Sides}
use Rattle.edit_convert.specs.Notes.{change_note, replaced_note, has_unread_parts, kept_note}
use Rattle.edit_convert.specs.Types.{PrintedType}
use Rattle.edit_convert.specs.declared.notes.NoteKind.TheVariants.{PartsNotRead}

-- the note on a field that is replaced is that on its replacement
pub note_of_replaced : (dialect : Dialect) (change : Option Replacement) (other : Option (List ℕ)) (f : FieldReading)
    → is_some change ≡ true → option_and_then replaced_note change ≡ change_note dialect change other f
note_of_replaced dialect (Some change) other f is = refl
note_of_replaced dialect None other f is = absurd (cc)

-- the note on a field that isn't replaced is that on a field that is kept
pub note_of_kept : (dialect : Dialect) (change : Option Replacement) (other : Option (List ℕ)) (f : FieldReading)
    → is_some change ≡ false → kept_note dialect other f ≡ change_note dialect change other f
note_of_kept dialect (Some change) other f is = absurd (cc)
note_of_kept dialect None other f is = refl

-- ---- fields of a date's parts

-- if no other replacement applies to a field, it is replaced exactly if it has sides
pub parts_replace : (defines is : Bool) (date name : Option (List ℕ)) (type : Option PrintedType) (sides : Option Sides)
    → is_some (first_replacement defines date name type None) ≡ false → is ≡ is_some sides
    → is ≡ is_some (first_replacement defines date name type sides)
parts_replace defines is (Some date) name type sides none same = absurd (cc)
parts_replace defines is None (Some name) type sides none same = absurd (cc)
parts_replace defines is None None (Some type) sides none same = absurd (cc)
parts_replace defines is None None None (Some s) none same = same
parts_replace defines is None None None None none same = same

-- if no other replacement applies to a field, its note is that on its sides
pub note_of_parts : (defines : Bool) (date name : Option (List ℕ)) (type : Option PrintedType) (sides : Option Sides)
    → is_some (first_replacement defines date name type None) ≡ false
    → option_and_then (λ s. replaced_note (Replacement.with_parts defines s)) sides
    ≡ option_and_then replaced_note (first_replacement defines date name type sides)
note_of_parts defines (Some date) name type sides none = absurd (cc)
note_of_parts defines None (Some name) type sides none = absurd (cc)
note_of_parts defines None None (Some type) sides none = absurd (cc)
note_of_parts defines None None None (Some s) none = refl
note_of_parts defines None None None None none = refl

-- the note on sides says whether they have parts that no standard style reads
pub note_of_sides : (defines b : Bool) (sides : Option Sides) (s : Sides) → sides ≡ Some s → has_unread_parts s ≡ b
    → cond b (Some PartsNotRead) None ≡ option_and_then (λ s. replaced_note (Replacement.with_parts defines s)) sides
note_of_sides defines b sides s is unread =
    ap (λ x. cond x (Some PartsNotRead) None) (sym unread)
    ∙ ap (option_and_then (λ s. replaced_note (Replacement.with_parts defines s))) (sym is)
