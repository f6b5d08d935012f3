-- Meaning: words of public contracts.
-- The properties of entries: the fields in which they are, and their sort values.
use Rattle.std.specs.Prelude.{◌≡◌, ◌==◌, ◌&&◌, ℕ, Bool, false, not, List, Option, None, Some, bytes_eq, codes, find, length, option_map, reverse}
use Rattle.std.specs.List.{flat_map, list_any}
use Rattle.std.specs.Str.{str_eq_ignore_ascii_case, str_to_ascii_lowercase}
use Rattle.bib_abbreviations.specs.Abbreviations.{AreContents, Definitions, IsReadable}
use Rattle.bib_chunks.specs.Values.{Value, alone}
use Rattle.bib_chunks.specs.declared.chunk.Chunk.TheVariants.{Normal}
use Rattle.bib_syntax.specs.Reading.{EntryReading, FieldReading, Piece}
use Rattle.bib_syntax.specs.Reading.Piece.{literal, abbreviation}
use Rattle.edit_orders.specs.Values.{text_as_value, sort_value_of}
use Rattle.edit_orders.specs.declared.order.Property.{Property}
use Rattle.edit_orders.specs.declared.order.Property.TheVariants as property
use Rattle.edit_orders.specs.declared.values.SortValue.{SortValue}

-- the text of a literal, or the name of an abbreviation
abbrev pub plain_piece : Piece → List ℕ
plain_piece (literal p) = p.text
plain_piece (abbreviation p) = p.text

-- whether a value has a piece that isn't empty
abbrev pub is_given : List Piece → Bool
is_given pieces = list_any (λ piece. not (length (plain_piece piece) == 0)) pieces

-- whether a field has this name, in any ASCII case, and a value that isn't empty
abbrev pub is_field_given : List ℕ → FieldReading → Bool
is_field_given name f = str_eq_ignore_ascii_case f.name.text name && is_given f.value.pieces

-- the last field of this name with a value that isn't empty
abbrev pub last_given : List FieldReading → List ℕ → Option FieldReading
last_given fields name = find (is_field_given name) (reverse fields)

-- the first of two fields, or else the second one
abbrev pub or_field : Option FieldReading → Option FieldReading → Option FieldReading
or_field (Some f) other = Some f
or_field None other = other

-- the field of the first name, or else that of the second name
abbrev pub either_field : List FieldReading → List ℕ → List ℕ → Option FieldReading
either_field fields name other = or_field (last_given fields name) (last_given fields other)

-- the field in which a property is: `date` or else `year`, `author` or else `editor`, and `title`; the key and the type aren't in a
-- field
abbrev pub field_with : Property → List FieldReading → Option FieldReading
field_with property.Year fields = either_field fields (codes "date") (codes "year")
field_with property.Author fields = either_field fields (codes "author") (codes "editor")
field_with property.Title fields = last_given fields (codes "title")
field_with property.Key fields = None
field_with property.Type fields = None

-- the texts of pieces, one after another, as normal text
abbrev pub plain_contents : List Piece → Value
plain_contents pieces = alone (Normal (flat_map plain_piece pieces))

-- chunks are the contents of a field: parsed with the definitions of abbreviations, or its pieces as normal text if they can't be
-- parsed. For example, an abbreviation that is neither defined nor a month can't be parsed
pub data AreContentsOf (definitions : Definitions) (pieces : List Piece) : Value → Type 0 where
  parsed : {chunks : Value} → AreContents definitions false pieces chunks → AreContentsOf definitions pieces chunks
  plain : (IsReadable definitions false pieces → ⊥) → AreContentsOf definitions pieces (plain_contents pieces)

-- the sort value of a property that is in a field: that of the contents of the field, and none without a field
abbrev pub IsFieldValue : Definitions → Property → Option FieldReading → Option SortValue → Type 0
IsFieldValue definitions property None value = value ≡ None
IsFieldValue definitions property (Some f) value =
    (chunks : Value) × AreContentsOf definitions f.value.pieces chunks × (value ≡ sort_value_of property chunks)

-- the sort value of a property of an entry
abbrev pub IsValueOf : Definitions → EntryReading → Property → Option SortValue → Type 0
IsValueOf definitions e property.Key value = value ≡ text_as_value (str_to_ascii_lowercase e.key.text)
IsValueOf definitions e property.Type value = value ≡ text_as_value (str_to_ascii_lowercase e.kind.text)
IsValueOf definitions e property.Year value = IsFieldValue definitions property.Year (field_with property.Year e.fields) value
IsValueOf definitions e property.Author value = IsFieldValue definitions property.Author (field_with property.Author e.fields) value
IsValueOf definitions e property.Title value = IsFieldValue definitions property.Title (field_with property.Title e.fields) value
