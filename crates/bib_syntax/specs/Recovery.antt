-- Meaning: words of public contracts.
-- Recovery: the reading of a text some of whose blocks can't be parsed. BibTeX reports an error, skips the rest of the block
-- and continues. Recovery continues at the next at sign that begins a line, so an unclosed brace usually costs only its block.
use Rattle.std.specs.Prelude.{◌≡◌, ◌⊎◌, ℕ, ◌<◌, Bool, true, false, not, ◌&&◌, ◌||◌, ◌==◌, List, [], ◌∷◌, length, take, drop}
use Rattle.std.specs.List.{list_any, Any}
use Rattle.std.specs.Str.{trim_end}
use Rattle.bib_text.specs.Places.{Place, place, CharAt, AtEnd}
use Rattle.bib_syntax.specs.Grammar.{Block, LineComment, longest}
use Rattle.bib_syntax.specs.Kept.{Kept, entry_alone}
use Rattle.bib_syntax.specs.Reading.{EntryReading, FileReading, empty_reading, then}
use Rattle.bib_syntax.specs.SyntaxErrors.{BlockFails, Reports}
use Rattle.bib_syntax.specs.declared.raw.ParseError.{ParseError}
use Rattle.bib_syntax.specs.declared.raw.recovery.SkippedBlock.{SkippedBlock}
use Rattle.bib_text.specs.Characters as char

-- whether `byte` occurs in `text`
abbrev pub has_byte : ℕ → List ℕ → Bool
has_byte byte text = list_any (λ b. b == byte) text

-- whether `text` contains a line feed or a carriage return
abbrev pub has_line_end : List ℕ → Bool
has_line_end text = has_byte char.line_feed text || has_byte char.carriage_return text

-- whether `before` is blank, or the white space at its end contains a line end
abbrev pub ends_blank : List ℕ → Bool
ends_blank before = length (trim_end before) == 0 || has_line_end (drop (length (trim_end before)) before)

-- an at sign is at `u`, and only white space precedes it on its line
abbrev pub BeginsLine : Place → Type 0
BeginsLine u = (v : Place) × CharAt u char.at v × (ends_blank (take u.at u.text) ≡ true)

-- characters from one place to another, none of which is an at sign that begins a line
pub data Passed : Place → Place → Type 0 where
  stop : {u : Place} → Passed u u
  step : {u v w : Place} {c : ℕ} → CharAt u c v → (BeginsLine u → ⊥) → Passed v w → Passed u w

-- recovery continues at `v`: the first at sign from `u` on that begins a line, or the end of the text if there is none
pub record GoesOnAt (u v : Place) : Type 0 where
  pub passed : Passed u v
  pub stands : AtEnd v ⊎ BeginsLine v

-- no block begins at `u`; `e` is the error of the grammar that is reported for it
abbrev pub IsUnreadBlock : Place → ParseError → Type 0
IsUnreadBlock u e = Reports (BlockFails u) e

-- a skipped block: its error, and the span from its at sign at `u` to `w`, where recovery continues
abbrev pub skipped_block : ParseError → Place → Place → SkippedBlock
skipped_block e u w = record { error = e; span = record { start = u.at; end = w.at } }

-- The parts that recovery keeps of the skipped block from `u` to `w`: none, or its complete parts if the flag is true. They
-- are parsed as if the text ended at `w`.
pub data Keeps : Bool → Place → Place → FileReading → Type 0 where
  nothing : {u w : Place} → Keeps false u w empty_reading
  parts : {u w : Place} {kept : FileReading} → Kept (place (take w.at w.text) u.at) kept → Keeps true u w kept

-- The rest of a file from a place, by the rules of the raw reading and one more rule. If no block begins at an at sign, its
-- error is kept. Recovery then continues at the next at sign that begins a line, or at the end of the text.
pub data Recovered (keeps_parts : Bool) : Place → FileReading → List SkippedBlock → Type 0 where
  end : {u : Place} → AtEnd u → Recovered keeps_parts u empty_reading []
  skipped : {u v : Place} {c : ℕ} {says : FileReading} {errors : List SkippedBlock} → CharAt u c v
      → not (c == char.at) && not (c == char.percent) ≡ true
      → Recovered keeps_parts v says errors → Recovered keeps_parts u says errors
  line_comment : {u v : Place} {says : FileReading} {errors : List SkippedBlock} → LineComment u v
      → Recovered keeps_parts v says errors → Recovered keeps_parts u says errors
  block : {u v : Place} {first rest : FileReading} {errors : List SkippedBlock} → Block longest u first v
      → Recovered keeps_parts v rest errors → Recovered keeps_parts u (then first rest) errors
  unread : {u v w : Place} {e : ParseError} {kept says : FileReading} {errors : List SkippedBlock} → CharAt u char.at v
      → IsUnreadBlock u e → GoesOnAt v w → Keeps keeps_parts u w kept
      → Recovered keeps_parts w says errors → Recovered keeps_parts u (then kept says) (skipped_block e u w ∷ errors)

-- `says` is the reading of the blocks of `text` that recovery parses, and `errors` are the blocks that it skips
abbrev pub IsRecovery : List ℕ → FileReading → List SkippedBlock → Type 0
IsRecovery text says errors = Recovered false (place text 0) says errors

-- as in `IsRecovery`, but `says` also has the complete parts of the skipped blocks
abbrev pub IsFullRecovery : List ℕ → FileReading → List SkippedBlock → Type 0
IsFullRecovery text says errors = Recovered true (place text 0) says errors

-- a block at the start of the entry `e` has exactly this entry as its raw reading
abbrev pub IsBlockOf : List ℕ → EntryReading → Type 0
IsBlockOf text e = (v : Place) × Block longest (place text e.start) (entry_alone e) v

-- the entry `e` begins at the start of a skipped block, and is the kept part of this block
abbrev pub IsKeptPart : List ℕ → List SkippedBlock → EntryReading → Type 0
IsKeptPart text errors e = Any
    (λ block. (block.span.start ≡ e.start) × Kept (place (take block.span.end text) e.start) (entry_alone e))
    errors

-- Recovery that begins at `start` reaches a place: `start` itself, or the end of a step from a place that it reaches. A step
-- is a skipped character, a line comment, a block or a skipped block.
pub data Reached (start : Place) : Place → Type 0 where
  here : Reached start start
  skipped : {u v : Place} {c : ℕ} → Reached start u → CharAt u c v → not (c == char.at) && not (c == char.percent) ≡ true → Reached start v
  line_comment : {u v : Place} → Reached start u → LineComment u v → Reached start v
  block : {u v : Place} {says : FileReading} → Reached start u → Block longest u says v → Reached start v
  unread : {u v w : Place} {e : ParseError} → Reached start u → CharAt u char.at v → IsUnreadBlock u e → GoesOnAt v w → Reached start w

-- `u` is strictly inside a block or a line comment that begins at a place that recovery reaches from the start of the text
pub record LiesInside (u : Place) : Type 0 where
  pub start : Place
  pub end : Place
  pub reached : Reached (place u.text 0) start
  pub is : ((says : FileReading) × Block longest start says end) ⊎ LineComment start end
  pub before : start.at < u.at
  pub following : u.at < end.at

-- `u` is strictly inside the span of a skipped block, after its at sign
abbrev pub IsPassedOver : List SkippedBlock → Place → Type 0
IsPassedOver errors u = Any (λ block. (block.span.start < u.at) × (u.at < block.span.end)) errors
