-- Machinery: words of private contracts.
-- How a part of a line is added to the line.
use Rattle.std.specs.Prelude.{◌≡◌, ℕ, ◌-◌, ◌<◌, List, ◌++◌, length}
use Rattle.std.specs.declared.ops.Range.{Range}
use Rattle.bib_text.specs.Places.{Place}
use Rattle.bib_syntax.specs.Lines.{InLine}
use Rattle.bib_syntax.specs.Reading.{FileReading, then}
use Rattle.bib_syntax.specs.Views.{file_of}
use Rattle.bib_syntax.specs.declared.raw.lines.RawLine.{RawLine}

-- one or more characters from `u` to `v` are a part of a line, which is added to the line `old`
pub record IsPartRead (u : Place) (old : RawLine) (v : Place) (new : RawLine) : Type 0 where
  pub blocks : List (Range ℕ)
  pub says : FileReading
  pub part : InLine u blocks says v
  pub more : length v.text - v.at < length u.text - u.at
  pub spans : new.blocks.items ≡ old.blocks.items ++ blocks
  pub content : file_of new.raw ≡ then (file_of old.raw) says
  pub place : new.span ≡ old.span
