-- Meaning: words of public contracts.
-- The names of entries and abbreviations, and the names that they refer to.
use Rattle.std.specs.Prelude.{ℕ, ◌==◌, if◌then◌else◌, List, [], ◌∷◌, length, codes}
use Rattle.std.specs.List.{flat_map, slice_split}
use Rattle.std.specs.Str.{trim}
use Rattle.bib_text.specs.Characters as char
use Rattle.bib_tables.specs.ReferenceFields.{is_reference_field}
use Rattle.bib_syntax.specs.Grammar.{is_word}
use Rattle.bib_syntax.specs.Reading.{EntryReading, FieldReading, Piece}
use Rattle.bib_syntax.specs.Reading.Piece.{abbreviation, literal}
use Rattle.bib_queries.specs.Needed.{Node}

-- a name, or no name if it is empty
abbrev pub name_if_filled : List ℕ → List (List ℕ)
name_if_filled name = if length name == 0 then [] else name ∷ []

-- the parts of a comma-separated list, without the white space around them and without empty parts
abbrev pub comma_parts : List ℕ → List (List ℕ)
comma_parts list = flat_map (λ part. name_if_filled (trim part)) (slice_split (λ c. c == char.comma) list)

-- the parts of a literal, which is a comma-separated list
abbrev pub piece_parts : Piece → List (List ℕ)
piece_parts (literal p) = comma_parts p.text
piece_parts (abbreviation p) = []

-- the parts of the literals of a value, which are comma-separated lists
abbrev pub literal_parts : List Piece → List (List ℕ)
literal_parts pieces = flat_map piece_parts pieces

-- the names that a field lists, if it is a reference
abbrev pub references_in : FieldReading → List (List ℕ)
references_in f = if is_reference_field f.name.text then literal_parts f.value.pieces else []

-- the names that an entry with these fields refers to
abbrev pub references_of : List FieldReading → List (List ℕ)
references_of fields = flat_map references_in fields

-- the names that a field lists, if it is the field `ids`
abbrev pub aliases_in : FieldReading → List (List ℕ)
aliases_in f = if is_word f.name.text (codes "ids") then literal_parts f.value.pieces else []

-- the names in the fields `ids` of an entry with these fields
abbrev pub aliases_of : List FieldReading → List (List ℕ)
aliases_of fields = flat_map aliases_in fields

-- the names of an entry: its key, and the names in its fields `ids`
abbrev pub entry_names : EntryReading → List (List ℕ)
entry_names e = e.key.text ∷ aliases_of e.fields

-- the names of an entry, and the names that it refers to
abbrev pub entry_node : EntryReading → Node
entry_node e = record { names = entry_names e; references = references_of e.fields }

-- the name of a piece if it is an abbreviation
abbrev pub used_as : Piece → List (List ℕ)
used_as (literal p) = []
used_as (abbreviation p) = p.text ∷ []

-- the abbreviations that a value uses
abbrev pub used_in_value : List Piece → List (List ℕ)
used_in_value pieces = flat_map used_as pieces

-- the abbreviations that fields use
abbrev pub used_in_fields : List FieldReading → List (List ℕ)
used_in_fields fields = flat_map (λ f. used_in_value f.value.pieces) fields

-- the name of an abbreviation, and the abbreviations that its definition uses
abbrev pub definition_node : FieldReading → Node
definition_node f = record { names = f.name.text ∷ []; references = used_in_value f.value.pieces }
