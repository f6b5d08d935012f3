-- Meaning: words of public contracts.
-- Parsing a file entry by entry.
use Rattle.std.specs.Prelude.{◌≡◌, ◌≤◌, []}
use Rattle.bib_text.specs.Places.{Place}
use Rattle.bib_syntax.specs.Grammar.{Block, File, longest}
use Rattle.bib_syntax.specs.Kept.{entry_alone}
use Rattle.bib_syntax.specs.Reading.{EntryReading, FileReading, then}
use Rattle.bib_syntax.specs.SyntaxErrors.{FileFails}
use Rattle.bib_syntax.specs.declared.raw.ParseErrorKind.{ParseErrorKind}

-- the content parsed from `start` to `here`: a file from `here` continues it, and a failure from `here` is one from `start`
pub record FileRead (start : Place) (says : FileReading) (here : Place) : Type 0 where
  pub there : (r : FileReading) → File longest here r → File longest start (then says r)
  pub fails : (kind : ParseErrorKind) (v : Place) → FileFails here kind v → FileFails start kind v

-- `before` is the content of the blocks without entries from `u` to `start`, and `e` is the entry of the block from there to `v`
pub record IsNextEntry (u : Place) (e : EntryReading) (v : Place) : Type 0 where
  pub before : FileReading
  pub start : Place
  pub none : before.entries ≡ []
  pub read : FileRead u before start
  pub same : start.text ≡ u.text
  pub forward : u.at ≤ start.at
  pub block : Block longest start (entry_alone e) v

-- the rest of the file from `u` has no entry; `says` is its content
pub record HasNoEntry (u : Place) : Type 0 where
  pub says : FileReading
  pub read : File longest u says
  pub none : says.entries ≡ []
