-- Meaning: words of public contracts.
-- The readings that values of the code represent: their texts and spans.
use Rattle.std.specs.Prelude.{ℕ, List, map}
use Rattle.std.specs.String.{string_bytes}
use Rattle.std.specs.Borrow.{Bor}
use Rattle.bib_text.specs.declared.spanned.Spanned.{Spanned}
use Rattle.bib_syntax.specs.declared.raw.RawChunk.{RawChunk}
use Rattle.bib_syntax.specs.declared.raw.RawChunk.TheVariants.{Normal, Abbreviation}
use Rattle.bib_syntax.specs.declared.raw.Pair.{Pair}
use Rattle.bib_syntax.specs.declared.raw.RawEntry.{RawEntry}
use Rattle.bib_syntax.specs.declared.raw.RawBibliography.{RawBibliography}
use Rattle.bib_syntax.specs.Reading.{Part, Piece, FieldReading, EntryReading, FileReading}
use Rattle.bib_syntax.specs.Reading.Piece.{literal, abbreviation}

-- the part that a text with its span represents
abbrev pub part_of : Spanned (Bor (List ℕ)) → Part
part_of s = record { text = s.v.now; start = s.span.start; end = s.span.end }

-- the piece of a value with these ends
abbrev pub piece_at : ℕ → ℕ → RawChunk → Piece
piece_at start end (Normal s) = literal (record { text = s.now; start = start; end = end })
piece_at start end (Abbreviation s) = abbreviation (record { text = s.now; start = start; end = end })

-- the piece of a value with its span
abbrev pub piece_of : Spanned RawChunk → Piece
piece_of s = piece_at s.span.start s.span.end s.v

-- the reading of a field, or of the definition of an abbreviation
abbrev pub field_of : Pair → FieldReading
field_of p = record {
  name = part_of p.key;
  value = record { pieces = map piece_of p.value.v.items; start = p.value.span.start; end = p.value.span.end };
}

-- the reading of an entry with its span
abbrev pub entry_reading_of : Spanned RawEntry → EntryReading
entry_reading_of e = record {
  key = part_of e.v.key;
  kind = part_of e.v.kind;
  fields = map field_of e.v.fields.items;
  start = e.span.start;
  end = e.span.end;
}

-- the reading of a raw bibliography
abbrev pub file_of : RawBibliography → FileReading
file_of raw = record {
  preamble = string_bytes raw.preamble;
  entries = map entry_reading_of raw.entries.items;
  abbreviations = map field_of raw.abbreviations.items;
}
