-- Machinery: words of private contracts.
-- The byte offsets of definitions and of skipped blocks.
use Rattle.std.specs.Prelude.{ℕ, ◌≤◌, List}
use Rattle.std.specs.Str.{IsCharBoundary}
use Rattle.bib_text.specs.Places.{Place, place}
use Rattle.bib_syntax.specs.Grammar.{Field, longest}
use Rattle.bib_syntax.specs.Reading.{FieldReading}
use Rattle.bib_syntax.specs.declared.raw.recovery.SkippedBlock.{SkippedBlock}

-- whether `f` is a field of the file grammar in `text`, at the offset of its name
abbrev pub IsFieldIn : List ℕ → FieldReading → Type 0
IsFieldIn text f = (v : Place) × Field longest (place text f.name.start) f v

-- whether the span of a skipped block is a slice of `text`
pub record IsSkippedIn (text : List ℕ) (block : SkippedBlock) : Type 0 where
  pub ordered : block.span.start ≤ block.span.end
  pub start : IsCharBoundary text block.span.start
  pub end : IsCharBoundary text block.span.end
