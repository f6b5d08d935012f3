-- Meaning: words of public contracts.
-- Texts of files one after another, with white space between them. The first character of this white space is a line feed, so no line
-- comment of a text reaches into the next one.
use Rattle.std.specs.Prelude.{◌≡◌, ◌⊎◌, ℕ, true, List, [], ◌∷◌, ◌++◌, drop}
use Rattle.std.specs.Char.{is_ascii_whitespace}
use Rattle.std.specs.List.{AllByRecursion, flat_map, list_all}
use Rattle.bib_text.specs.Characters as char
use Rattle.bib_text.specs.Places.{between, place}
use Rattle.bib_syntax.specs.Reading.{FileReading, empty_reading, then}
use Rattle.edit_entries.specs.Changes.{IsReadPlaceless}
use Rattle.edit_units.specs.Units.{UnitReading, end_of_units}

-- white space, and the text of a file after it with its content, except for byte offsets
pub record FilePart : Type 0 where
  pub space : List ℕ
  pub text : List ℕ
  pub says : FileReading

-- a text is ASCII white space
abbrev pub IsWhite : List ℕ → Type 0
IsWhite text = list_all is_ascii_whitespace text ≡ true

-- a text is ASCII white space that begins with a line feed
pub data IsLineEnd : List ℕ → Type 0 where
  feed : {rest : List ℕ} → IsWhite rest → IsLineEnd (char.line_feed ∷ rest)

-- a text is empty, or ASCII white space that begins with a line feed
abbrev pub IsFileEnd : List ℕ → Type 0
IsFileEnd text = (text ≡ []) ⊎ IsLineEnd text

-- a part's text has its content, except for byte offsets, and the white space before it begins with a line feed
pub record IsNextPart (p : FilePart) : Type 0 where
  pub space : IsLineEnd p.space
  pub read : IsReadPlaceless p.says p.text

-- each text has its content, and white space is before each. A line feed is before each except the first, and after the last one the
-- text ends or a line feed follows
pub data AreParts : List FilePart → List ℕ → Type 0 where
  none : {end : List ℕ} → IsWhite end → AreParts [] end
  some : {p : FilePart} {ps : List FilePart} {end : List ℕ} → IsWhite p.space → IsReadPlaceless p.says p.text
      → AllByRecursion IsNextPart ps → IsFileEnd end → AreParts (p ∷ ps) end

-- the text of parts, with another text after it
abbrev pub text_of_parts : List FilePart → List ℕ → List ℕ
text_of_parts ps end = flat_map (λ p. p.space ++ p.text) ps ++ end

-- the content of parts, one after another
abbrev pub parts_together : List FilePart → FileReading
parts_together [] = empty_reading
parts_together (p ∷ ps) = then p.says (parts_together ps)

-- the units of a text from an offset on, as parts
abbrev pub parts_from : List ℕ → ℕ → List UnitReading → List FilePart
parts_from text at [] = []
parts_from text at (u ∷ us) =
    record { space = between (place text at) (place text u.start); text = between (place text u.start) (place text u.end); says = u.says }
    ∷ parts_from text u.end us

-- the units of a text are its parts: their texts have their contents, and nothing but white space is around them
pub record AreItsParts (text : List ℕ) (units : List UnitReading) : Type 0 where
  pub are : AreParts (parts_from text 0 units) (drop (end_of_units 0 units) text)
  pub whole : text ≡ text_of_parts (parts_from text 0 units) (drop (end_of_units 0 units) text)
