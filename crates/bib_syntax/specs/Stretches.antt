-- Machinery: words of private contracts.
-- Stretches of a text without some character, kept because parts of the text are parsed more than once.
use Rattle.std.specs.Prelude.{◌≡◌, ℕ, ◌==◌, not, true, List, length}
use Rattle.std.specs.List.{All}
use Rattle.std.specs.Str.{IsUtf8, IsCharBoundary}
use Rattle.bib_text.specs.Places.{Place, place, Longest, EndsOr}
use Rattle.bib_text.specs.Characters as char
use Rattle.bib_syntax.specs.Closings.{AreClosings}
use Rattle.bib_syntax.specs.Failures.{AreFailures}
use Rattle.bib_syntax.specs.declared.raw.memo.Memo.{Memo}
use Rattle.bib_syntax.specs.declared.raw.stretches.Stretch.{Stretch}

-- a stretch of a UTF-8 text without the character `sign`; at its end `sign` occurs, or the text ends
pub record IsStretch (sign : ℕ) (text : List ℕ) (stretch : Stretch) : Type 0 where
  pub utf8 : IsUtf8 text
  pub longest : Longest (λ c. not (c == sign)) (place text stretch.start) (place text stretch.end)
  pub stopped : EndsOr (λ c. c == sign ≡ true) (place text stretch.end)
  pub may_end : IsCharBoundary text stretch.end

-- from `u` to the offset `end`, `sign` doesn't occur; at `end` it occurs, or the text ends
pub record IsStretchFrom (sign : ℕ) (u : Place) (end : ℕ) : Type 0 where
  pub longest : Longest (λ c. not (c == sign)) u (place u.text end)
  pub stopped : EndsOr (λ c. c == sign ≡ true) (place u.text end)
  pub may_end : IsCharBoundary u.text end

-- each of `lines` is a line of `text`, or the rest of one, without its line feed
abbrev pub AreLines : List ℕ → List Stretch → Type 0
AreLines text lines = All (IsStretch char.line_feed text) lines

-- `tail` is a stretch without closing braces up to the end of `text`
abbrev pub IsTail : List ℕ → Stretch → Type 0
IsTail text tail = IsStretch char.close_brace text tail × (tail.end ≡ length text)

-- each fact in `memo` is true of `text`
pub record IsMemoOf (text : List ℕ) (memo : Memo) : Type 0 where
  pub closings : AreClosings text memo.closings.items
  pub lines : AreLines text memo.lines.items
  pub tail : IsTail text memo.tail
  pub failures : AreFailures text memo.failures
