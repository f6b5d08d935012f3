-- Meaning: words of public contracts.
-- The parts of a reading are the text in their spans.
use Rattle.std.specs.Prelude.{◌≡◌, ℕ, ◌+◌, ◌≤◌, List, length}
use Rattle.std.specs.List.{AllByRecursion}
use Rattle.bib_text.specs.Places.{place, between}
use Rattle.bib_syntax.specs.Reading.{Part, Piece, FieldReading, EntryReading, FileReading}
use Rattle.bib_syntax.specs.Reading.Piece.{literal, abbreviation}

-- the part `p` is the bytes of `text` in its span, which is in `text`
pub record StandsIn (text : List ℕ) (p : Part) : Type 0 where
  pub bytes : p.text ≡ between (place text p.start) (place text p.end)
  pub size : p.end ≡ p.start + length p.text
  pub within : p.end ≤ length text

-- a piece is the text in its span, which is in `text`
abbrev pub PieceStandsIn : List ℕ → Piece → Type 0
PieceStandsIn text (literal p) = StandsIn text p
PieceStandsIn text (abbreviation p) = StandsIn text p

-- the name of a field and each piece of its value are the text in their spans
pub record FieldStandsIn (text : List ℕ) (f : FieldReading) : Type 0 where
  pub name : StandsIn text f.name
  pub pieces : AllByRecursion (PieceStandsIn text) f.value.pieces

-- the span of an entry is in `text`; its key, its entry type and the parts of its fields are the text in their spans
pub record EntryStandsIn (text : List ℕ) (e : EntryReading) : Type 0 where
  pub ordered : e.start ≤ e.end
  pub within : e.end ≤ length text
  pub key : StandsIn text e.key
  pub kind : StandsIn text e.kind
  pub fields : AllByRecursion (FieldStandsIn text) e.fields

-- each key, entry type, field name and piece of a reading is the text in its span
pub record ReadingStandsIn (text : List ℕ) (says : FileReading) : Type 0 where
  pub entries : AllByRecursion (EntryStandsIn text) says.entries
  pub abbreviations : AllByRecursion (FieldStandsIn text) says.abbreviations
