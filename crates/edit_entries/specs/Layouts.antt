-- Meaning: words of public contracts.
-- The text between the name and the value of a new field: as in the other fields of its entry, or ` = `.
use Rattle.std.specs.Prelude.{◌==◌, ◌&&◌, ◌||◌, ℕ, ◌+◌, ◌-◌, max, Bool, if◌then◌else◌, List, [], ◌∷◌, ◌++◌, Option, Some, None, codes, length, nat_lt, replicate}
use Rattle.std.specs.List.{after_first, before_first, list_all}
use Rattle.bib_text.specs.Characters as char
use Rattle.bib_text.specs.Places.{between, place}
use Rattle.bib_syntax.specs.Reading.{FieldReading}
use lib.Dec.{eqb}

-- the text between a field's name and its value
abbrev pub sign_text : List ℕ → FieldReading → List ℕ
sign_text text f = between (place text f.name.end) (place text f.value.start)

-- the text between the name of a field and its equals sign
abbrev pub before_equals : List ℕ → FieldReading → List ℕ
before_equals text f = before_first (λ b. eqb b char.equals) (sign_text text f)

-- the text between the equals sign of a field and its value
abbrev pub after_equals : List ℕ → FieldReading → List ℕ
after_equals text f = after_first (λ b. eqb b char.equals) (sign_text text f)

-- whether a byte is a space or a tab
abbrev pub is_blank_byte : ℕ → Bool
is_blank_byte b = b == char.space || b == char.tab

-- the number of bytes from the start of a field's name to its equals sign
abbrev pub sign_column : List ℕ → FieldReading → ℕ
sign_column text f = length f.name.text + length (before_equals text f)

-- the `sign_column` of the first of these fields that has more than one byte between its name and its equals sign
abbrev pub wide_column : List ℕ → List FieldReading → Option ℕ
wide_column text [] = None
wide_column text (f ∷ fs) = if nat_lt 1 (length (before_equals text f)) then Some (sign_column text f) else wide_column text fs

-- spaces from the end of a name to a column, at least one
abbrev pub name_padding : ℕ → List ℕ → List ℕ
name_padding column name = replicate (max 1 (column - length name)) char.space

-- for a column, the spaces from the end of `name` to it, at least one; without a column, the text `white`
abbrev pub padding_or : Option ℕ → List ℕ → List ℕ → List ℕ
padding_or (Some column) name white = name_padding column name
padding_or None name white = white

-- The text between the name and the value of a new field beside this one. If this one has only spaces and tabs around its equals sign,
-- `padding_or` is before the new sign: spaces up to the column, if there is one, or else the white space of this field. After the sign is
-- the white space of this field. Otherwise one space is before and after the sign.
abbrev pub sign_in_column : List ℕ → List ℕ → Option ℕ → FieldReading → List ℕ
sign_in_column text name column f =
    if list_all is_blank_byte (before_equals text f) && list_all is_blank_byte (after_equals text f)
    then padding_or column name (before_equals text f) ++ char.equals ∷ after_equals text f
    else codes " = "

-- The text between the name and the value of a new field before these, of which this is the first. The column is that of the first field
-- with more than one byte between its name and its equals sign, if there is one.
abbrev pub new_sign : List ℕ → List ℕ → FieldReading → List FieldReading → List ℕ
new_sign text name first fields = sign_in_column text name (wide_column text fields) first

-- The text between the name and the value of a new field that replaces a field or comes before it; the list has all fields of the entry.
-- If this field has more than one byte between its name and its sign, the column is its own. Otherwise it is that of the first such field.
abbrev pub sign_at : List ℕ → FieldReading → List FieldReading → List ℕ → List ℕ
sign_at text f fields name = new_sign text name f (f ∷ fields)
