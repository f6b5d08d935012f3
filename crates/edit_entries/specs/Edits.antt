-- Meaning: words of public contracts.
-- Edits of a text that replace one stretch or several, and the reading after one: the same entries, abbreviations and preamble. Parts after
-- the stretch keep their distance from the end of the text.
use Rattle.std.specs.Prelude.{ℕ, ◌+◌, ◌-◌, List, [], ◌∷◌, ◌++◌, length, take, drop, map, nat_lt, if◌then◌else◌}
use Rattle.bib_syntax.specs.Reading.{Part, Piece, FieldReading, EntryReading, FileReading}
use Rattle.bib_syntax.specs.Reading.Piece.{literal, abbreviation}

-- a stretch of a text, and the bytes that replace it
pub record Edit : Type 0 where
  pub start : ℕ
  pub end : ℕ
  pub bytes : List ℕ

-- the text with the stretch replaced
abbrev pub edited : Edit → List ℕ → List ℕ
edited edit text = take edit.start text ++ edit.bytes ++ drop edit.end text

-- the text with these edits made, from the last to the first, so that the others keep their byte offsets
abbrev pub edited_all : List Edit → List ℕ → List ℕ
edited_all [] text = text
edited_all (edit ∷ edits) text = edited edit (edited_all edits text)

-- the new byte offset for an old one: offsets before the end of the stretch are kept, those from the end on move
abbrev pub moved_place : Edit → ℕ → ℕ
moved_place edit at = if nat_lt at edit.end then at else at - edit.end + (edit.start + length edit.bytes)

-- a part with moved byte offsets
abbrev pub moved_part : (ℕ → ℕ) → Part → Part
moved_part move p = record { text = p.text; start = move p.start; end = move p.end }

-- a piece with moved byte offsets
abbrev pub moved_piece : (ℕ → ℕ) → Piece → Piece
moved_piece move (literal p) = literal (moved_part move p)
moved_piece move (abbreviation p) = abbreviation (moved_part move p)

-- a field with moved byte offsets
abbrev pub moved_field : (ℕ → ℕ) → FieldReading → FieldReading
moved_field move f = record {
  name = moved_part move f.name;
  value = record { pieces = map (moved_piece move) f.value.pieces; start = move f.value.start; end = move f.value.end };
}

-- an entry with moved byte offsets
abbrev pub moved_entry : (ℕ → ℕ) → EntryReading → EntryReading
moved_entry move e = record {
  key = moved_part move e.key;
  kind = moved_part move e.kind;
  fields = map (moved_field move) e.fields;
  start = move e.start;
  end = move e.end;
}

-- the reading of a file with moved byte offsets
abbrev pub moved_file : (ℕ → ℕ) → FileReading → FileReading
moved_file move says = record {
  preamble = says.preamble;
  entries = map (moved_entry move) says.entries;
  abbreviations = map (moved_field move) says.abbreviations;
}

-- the reading of a file without byte offsets: each is 0
abbrev pub placeless : FileReading → FileReading
placeless says = moved_file (λ at. 0) says
