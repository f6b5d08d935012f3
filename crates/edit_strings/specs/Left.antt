-- Meaning: words of public contracts.
-- References that stay as they are when entries get new keys, although they refer to such an entry: their values aren't one literal.
use Rattle.std.specs.Prelude.{◌≡◌, ◌&&◌, ℕ, Bool, if◌then◌else◌, is_some, not, List, [], ◌∷◌, Option, Some, None}
use Rattle.std.specs.List.{flat_map}
use Rattle.bib_syntax.specs.Reading.{EntryReading, FieldReading, FileReading, Piece}
use Rattle.bib_syntax.specs.Reading.Piece.{abbreviation, literal}
use Rattle.bib_tables.specs.ReferenceFields.{is_reference_field}
use Rattle.edit_entries.specs.References.{first_renamed, new_reference}
use Rattle.edit_strings.specs.Collected.{single_text}
use Rattle.edit_strings.specs.Expanded.{AreWrittenOut, elements}

-- the text of a piece of an expansion, empty for a name. BibTeX and Biber read an undefined name other than a month's as an empty text
abbrev pub expanded_text : Piece → List ℕ
expanded_text (literal p) = p.text
expanded_text (abbreviation p) = []

-- the text of a value with this expansion
abbrev pub expansion_text : List Piece → List ℕ
expansion_text pieces = flat_map expanded_text pieces

-- whether a field is a reference whose value isn't one literal
abbrev pub is_joined_reference : FieldReading → Bool
is_joined_reference f = is_reference_field f.name.text && not (is_some (single_text (elements f)))

-- the first key in a field that refers to an entry with a new key, if the field is a reference whose value isn't one literal. `written`
-- is the expansion of the value, and `names` returns the new key for a key in a field
abbrev pub left_name : (List ℕ → List ℕ → Option (List ℕ)) → FieldReading → List Piece → Option (List ℕ)
left_name names f written =
    if is_joined_reference f then first_renamed (names f.name.text) (expansion_text written) else None

-- a reference that stays: its entry, its field, and the first key in it that refers to an entry with a new key
pub record Left : Type 0 where
  pub entry : EntryReading
  pub field : FieldReading
  pub name : List ℕ

-- the reference in a field as a list: it stays if there is a first key in it that refers to an entry with a new key
abbrev pub left_at : EntryReading → FieldReading → Option (List ℕ) → List Left
left_at e f None = []
left_at e f (Some name) = record { entry = e; field = f; name = name } ∷ []

-- the references of an entry that stay, if its values have these expansions
abbrev pub left_in : (List ℕ → List ℕ → Option (List ℕ)) → (EntryReading → FieldReading → List Piece) → EntryReading → List Left
left_in names written e = flat_map (λ f. left_at e f (left_name names f (written e f))) e.fields

-- these are the references of a file that stay when entries get new keys by their indices
pub record AreLeft (says : FileReading) (keys : ℕ → Option (List ℕ)) (left : List Left) : Type 0 where
  pub written : EntryReading → FieldReading → List Piece
  pub each : AreWrittenOut says written
  pub are : left ≡ flat_map (left_in (new_reference says.entries keys) written) says.entries
