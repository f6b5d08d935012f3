-- Meaning: words of public contracts.
-- Byte offsets at which a text may be cut: the bounds of its entries and of their parts.
use Rattle.std.specs.Prelude.{ℕ, ◌+◌, ◌≤◌, List, [], ◌∷◌, ⊤}
use Rattle.std.specs.List.{AllByRecursion}
use Rattle.std.specs.Str.{IsCharBoundary}
use Rattle.bib_syntax.specs.Reading.{Piece, FieldReading, EntryReading}
use Rattle.bib_syntax.specs.Reading.Piece.{literal, abbreviation}

-- a part may be cut out of a text
pub record CanBeCut (text : List ℕ) (start end : ℕ) : Type 0 where
  pub ordered : start ≤ end
  pub start_cut : IsCharBoundary text start
  pub end_cut : IsCharBoundary text end

-- a text may be cut where a literal begins
abbrev pub IsPieceCut : List ℕ → Piece → Type 0
IsPieceCut text (literal p) = IsCharBoundary text p.start
IsPieceCut text (abbreviation p) = ⊤

-- a text may be cut where the literals of a field begin
abbrev pub ArePiecesCut : List ℕ → FieldReading → Type 0
ArePiecesCut text f = AllByRecursion (IsPieceCut text) f.value.pieces

-- the gaps between a byte offset, the fields after it and the closing brace may be cut out of a text
abbrev pub AreGapsCut : List ℕ → ℕ → List FieldReading → ℕ → Type 0
AreGapsCut text start [] end = CanBeCut text start end
AreGapsCut text start (f ∷ fs) end = CanBeCut text start f.name.start × AreGapsCut text f.value.end fs end

-- an entry, and the gaps around its fields, may be cut out of a text, which may also be cut where their literals begin
pub record IsEntryCut (text : List ℕ) (e : EntryReading) : Type 0 where
  pub whole : CanBeCut text e.start (e.end + 1)
  pub gaps : AreGapsCut text e.key.end e.fields e.end
  pub pieces : AllByRecursion (ArePiecesCut text) e.fields

-- entries, and the gaps between them from a byte offset on, may be cut out of a text
abbrev pub AreEntriesCut : List ℕ → ℕ → List EntryReading → Type 0
AreEntriesCut text at [] = IsCharBoundary text at
AreEntriesCut text at (e ∷ es) = CanBeCut text at e.start × IsEntryCut text e × AreEntriesCut text (e.end + 1) es
