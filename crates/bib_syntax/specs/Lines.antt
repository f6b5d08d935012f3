-- Meaning: words of public contracts.
-- A file line by line, where a line feed within a block ends no line. So a line may contain several blocks, and each block is in one line
-- as a whole, even if it has line feeds.
use Rattle.std.specs.Prelude.{◌≡◌, ℕ, Bool, true, not, ◌&&◌, ◌==◌, List, [], ◌∷◌}
use Rattle.std.specs.declared.ops.Range.{Range}
use Rattle.bib_text.specs.Characters as char
use Rattle.bib_text.specs.Places.{Place, CharAt, AtEnd}
use Rattle.bib_syntax.specs.Grammar.{Block, LineComment, longest}
use Rattle.bib_syntax.specs.Reading.{FileReading, empty_reading, then}

-- whether a character outside of blocks and line comments continues a line: it is neither an at sign, nor a percent sign, nor a line feed
abbrev pub continues_line : ℕ → Bool
continues_line c = not (c == char.at) && not (c == char.percent) && not (c == char.line_feed)

-- a part of a line: blocks with these spans and this content, line comments, and other characters
pub data InLine : Place → List (Range ℕ) → FileReading → Place → Type 0 where
  none : {u : Place} → InLine u [] empty_reading u
  skipped : {u v w : Place} {c : ℕ} {blocks : List (Range ℕ)} {says : FileReading} → CharAt u c v → continues_line c ≡ true
      → InLine v blocks says w → InLine u blocks says w
  line_comment : {u v w : Place} {blocks : List (Range ℕ)} {says : FileReading} → LineComment u v → InLine v blocks says w
      → InLine u blocks says w
  block : {u v w : Place} {first rest : FileReading} {blocks : List (Range ℕ)} → Block longest u first v → InLine v blocks rest w
      → InLine u (record { start = u.at; end = v.at } ∷ blocks) (then first rest) w

-- a line: the byte offsets at which it begins and ends, without its line feed, the spans of its blocks, and their content
pub record LineReading : Type 0 where
  pub start : ℕ
  pub end : ℕ
  pub blocks : List (Range ℕ)
  pub says : FileReading

-- a line without its line feed is from one place to another
pub record IsLine (u : Place) (l : LineReading) (v : Place) : Type 0 where
  pub inside : InLine u l.blocks l.says v
  pub starts : l.start ≡ u.at
  pub ends : l.end ≡ v.at

-- the lines from a place up to the end of the text, separated by line feeds. There is an empty last one after a line feed at the end
pub data AreLinesFrom : Place → List LineReading → Type 0 where
  last : {u v : Place} {l : LineReading} → IsLine u l v → AtEnd v → AreLinesFrom u (l ∷ [])
  more : {u end v : Place} {l : LineReading} {ls : List LineReading} → IsLine u l end → CharAt end char.line_feed v → AreLinesFrom v ls
      → AreLinesFrom u (l ∷ ls)

-- the content of lines, one after another
abbrev pub lines_together : List LineReading → FileReading
lines_together [] = empty_reading
lines_together (l ∷ ls) = then l.says (lines_together ls)
