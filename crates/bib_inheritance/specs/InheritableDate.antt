-- Meaning: words of public contracts.
-- The date of an entry that other entries can inherit.
use Rattle.std.specs.Prelude.{◌≡◌, ℕ, Bool, true, false, not, ◌&&◌, ◌||◌, List, [], ◌∷◌, map, codes, option_map, Option, Some, None, IsSomeAnd, if◌then◌else◌, ⊤}
use Rattle.std.specs.Str.{chars}
use Rattle.std.specs.declared.ops.Range.{Range}
use Rattle.bib_chunks.specs.Styled.{Atom, styled, whole_span}
use Rattle.bib_chunks.specs.Values.{Value}
use Rattle.bib_chunks.specs.declared.chunk.Chunk.TheVariants.{Verbatim}
use Rattle.bib_tables.specs.declared.type_error.TypeErrorKind.{TypeErrorKind}
use Rattle.bib_tables.specs.Requirements.{rules_of}
use Rattle.bib_dates.specs.Chunks.{three_fields_place}
use Rattle.bib_dates.specs.Rewritten.{rewritten_date}
use Rattle.bib_dates.specs.Readings.{MayRefuse, Reading, readable_value}
use Rattle.bib_dates.specs.ThreeFields.{three_fields_of}
use Rattle.bib_dates.specs.Written.{date_text}
use Rattle.bib_dates.specs.declared.date.Date.{Date}
use Rattle.bib_inheritance.specs.References.{plain}
use Rattle.bib_inheritance.specs.declared.inheritable_date.InheritableDate.{InheritableDate as Kept}
use Rattle.bib_inheritance.specs.declared.inheritable_date.InheritableDate.TheVariants.{Undated, Unreadable, Dated}
use Rattle.bib_inheritance.specs.EntryTexts.{EntryTexts, FieldTexts, first_some, has}

-- a text as normal characters
abbrev pub written_date : List ℕ → List Atom
written_date text = map Atom.normal (chars text)

-- the date of an entry. It has none (`undated`), or it has a date with this styled text (`dated`). It is `unreadable` if the
-- entry has `year` but no `date`, and its year, month and day can't be parsed
pub data InheritableDate : Type 0 where
  undated : InheritableDate
  unreadable : InheritableDate
  dated : List Atom → InheritableDate

-- the date in a field `date`: the rewritten text if the date can be parsed, and the styled text of the field otherwise
abbrev pub of_one_field : List Atom → Option (List ℕ) → InheritableDate
of_one_field own None = InheritableDate.dated own
of_one_field own (Some text) = InheritableDate.dated (written_date text)

-- the result of parsing the year, the month and the day of an entry as a date; `year` is the text of the year
abbrev pub three_fields : FieldTexts → List ℕ → Reading Date
three_fields fields year = three_fields_of year (option_map plain (fields (codes "month"))) (option_map plain (fields (codes "day")))

-- the date in three fields: its text if it can be parsed, and `unreadable` otherwise
abbrev pub of_three_fields : Option Date → InheritableDate
of_three_fields None = InheritableDate.unreadable
of_three_fields (Some date) = InheritableDate.dated (written_date (date_text date))

-- the date of an entry: `date` takes precedence over `year`
abbrev pub inheritable_date_by : FieldTexts → Option (List Atom) → Option (List Atom) → InheritableDate
inheritable_date_by fields (Some date) year = of_one_field date (rewritten_date (plain date))
inheritable_date_by fields None (Some year) = of_three_fields (readable_value (three_fields fields (plain year)))
inheritable_date_by fields None None = InheritableDate.undated

-- the date of an entry with these fields
abbrev pub inheritable_date : FieldTexts → InheritableDate
inheritable_date fields = inheritable_date_by fields (fields (codes "date")) (fields (codes "year"))

-- the styled text of a date, if there is one
abbrev pub dated_text : InheritableDate → Option (List Atom)
dated_text (InheritableDate.dated atoms) = Some atoms
dated_text InheritableDate.undated = None
dated_text InheritableDate.unreadable = None

-- whether a date is unreadable
abbrev pub is_unreadable : InheritableDate → Bool
is_unreadable InheritableDate.unreadable = true
is_unreadable InheritableDate.undated = false
is_unreadable (InheritableDate.dated atoms) = false

-- whether an entry lacks a required date: its type requires one, and it has neither `date` nor `year`
abbrev pub looks_for_date : EntryTexts → Bool
looks_for_date own = (rules_of own.entry_type).needs_date && not (has own (codes "date") || has own (codes "year"))

-- the date of the last of these entries whose date can be inherited
abbrev pub last_date : List EntryTexts → Option (List Atom)
last_date [] = None
last_date (r ∷ rest) = first_some (last_date rest) (dated_text (inheritable_date r.fields))

-- the date that an entry inherits: if it lacks a required date, that of the last reference whose date can be inherited
abbrev pub date_for : EntryTexts → List EntryTexts → Option (List Atom)
date_for own references = if looks_for_date own then last_date references else None

-- the entry has a year, and parsing its year, month and day may fail with this kind of error
abbrev pub DateMayFail : FieldTexts → TypeErrorKind → Type 0
DateMayFail fields kind = IsSomeAnd (fields (codes "year")) (λ year. MayRefuse (three_fields fields (plain year)) kind)

-- the Rust value is the date of an entry with these fields
abbrev pub IsInheritableDate : FieldTexts → Kept → Type 0
IsInheritableDate fields Undated = inheritable_date fields ≡ InheritableDate.undated
IsInheritableDate fields (Unreadable error) = (inheritable_date fields ≡ InheritableDate.unreadable) × DateMayFail fields error.kind
IsInheritableDate fields (Dated chunks) = inheritable_date fields ≡ InheritableDate.dated (styled chunks)

-- the chunks of fields, by name
abbrev pub FieldChunks : Type 0
FieldChunks = List ℕ → Option Value

-- the plain text of a field as one verbatim chunk with the span of all chunks of the field
abbrev pub as_text : Value → Value
as_text chunks = record { v = Verbatim (plain (styled chunks)); span = whole_span chunks } ∷ []

-- the span of the error of the year, the month and the day of an entry: that of the first of them that can't be parsed. For a day
-- in the field `month`, it is that of its digits in the text of this field
abbrev pub IsPlaceOfDate : FieldChunks → Range ℕ → Type 0
IsPlaceOfDate fields place =
    IsSomeAnd (fields (codes "year"))
    (λ year.
    place
    ≡ three_fields_place (as_text year) (option_map as_text (fields (codes "month")))
    (option_map as_text (fields (codes "day"))))

-- if the date is unreadable, its error has the span that the fields determine
abbrev pub LiesAtDate : FieldChunks → Kept → Type 0
LiesAtDate fields (Unreadable error) = IsPlaceOfDate fields error.span
LiesAtDate fields Undated = ⊤
LiesAtDate fields (Dated chunks) = ⊤
