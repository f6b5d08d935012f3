-- Meaning: words of public contracts.
-- The units of a file: the parts that a comparison or a merge of files keeps together.
use Rattle.std.specs.Prelude.{◌≡◌, ◌==◌, ◌&&◌, ℕ, Bool, false, not, List, [], ◌∷◌, cond, length}
use Rattle.std.specs.declared.ops.Range.{Range}
use Rattle.std.specs.Char.{is_ascii_whitespace}
use Rattle.std.specs.List.{list_all}
use Rattle.bib_text.specs.Places.{between, place}
use Rattle.bib_syntax.specs.Lines.{AreLinesFrom, LineReading}
use Rattle.bib_syntax.specs.Reading.{FileReading}

-- the bytes of a line, without its line feed
abbrev pub line_bytes : List ℕ → LineReading → List ℕ
line_bytes text l = between (place text l.start) (place text l.end)

-- whether a line has no block
abbrev pub has_no_block : LineReading → Bool
has_no_block l = length l.blocks == 0

-- whether a line has no block, and no character except ASCII white space
abbrev pub is_blank_line : List ℕ → LineReading → Bool
is_blank_line text l = has_no_block l && list_all is_ascii_whitespace (line_bytes text l)

-- a unit: the byte offsets at which its first line begins and its last line ends, the spans of the blocks in its lines, and their content
pub record UnitReading : Type 0 where
  pub start : ℕ
  pub end : ℕ
  pub blocks : List (Range ℕ)
  pub says : FileReading

-- whether lines begin with one that isn't blank
abbrev pub begin_filled : List ℕ → List LineReading → Bool
begin_filled text [] = false
begin_filled text (l ∷ ls) = not (is_blank_line text l)

-- whether a line before these lines belongs to the unit of the first of them: it has no block, and the first of them isn't blank
abbrev pub is_above : List ℕ → LineReading → List LineReading → Bool
is_above text l ls = begin_filled text ls && has_no_block l

-- the units of lines after one more line before them. `joins` is whether it belongs to the first unit
abbrev pub with_line : Bool → LineReading → List UnitReading → List UnitReading
with_line joins l [] = record { start = l.start; end = l.end; blocks = l.blocks; says = l.says } ∷ []
with_line joins l (u ∷ us) =
    cond joins ((record u { start = l.start }) ∷ us) (record { start = l.start; end = l.end; blocks = l.blocks; says = l.says } ∷ u ∷ us)

-- The units of lines: a blank line belongs to none. Each other line without a block belongs to the unit of the next line, unless that is
-- blank. So a unit is a line with blocks and the lines directly above it, or else one or more lines without blocks, up to a
-- blank line or the end.
abbrev pub line_units : List ℕ → List LineReading → List UnitReading
line_units text [] = []
line_units text (l ∷ ls) = cond (is_blank_line text l) (line_units text ls) (with_line (is_above text l ls) l (line_units text ls))

-- the units of a text, given its lines
pub record AreUnits (text : List ℕ) (units : List UnitReading) : Type 0 where
  pub lines : List LineReading
  pub are : AreLinesFrom (place text 0) lines
  pub units_are : units ≡ line_units text lines

-- a unit as texts: the white space before it, and its bytes
pub record UnitTexts : Type 0 where
  pub space : List ℕ
  pub text : List ℕ

-- the texts of units from a byte offset on
abbrev pub texts_from : List ℕ → ℕ → List UnitReading → List UnitTexts
texts_from text at [] = []
texts_from text at (u ∷ us) =
    record { space = between (place text at) (place text u.start); text = between (place text u.start) (place text u.end) }
    ∷ texts_from text u.end us

-- the byte offset at which the last of these units ends, or this one if there is none
abbrev pub end_of_units : ℕ → List UnitReading → ℕ
end_of_units at [] = at
end_of_units at (u ∷ us) = end_of_units u.end us
