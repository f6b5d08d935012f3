-- Machinery: words of private contracts.
-- Where braces close, kept because parts of a text are parsed more than once.
use Rattle.std.specs.Prelude.{ℕ, List, Option, MatchOption}
use Rattle.std.specs.List.{All}
use Rattle.bib_text.specs.Places.{Place, place, CharAt}
use Rattle.bib_text.specs.Braces.{Parts}
use Rattle.bib_syntax.specs.declared.raw.closings.Closing.{Closing}
use Rattle.bib_text.specs.Characters as char

-- no brace closes the text from `u`
abbrev pub NeverCloses : Place → Type 0
NeverCloses u = (v w : Place) → Parts u v → CharAt v char.close_brace w → ⊥

-- a brace at `v` closes the text from `u`
abbrev pub ClosesAt : Place → Place → Type 0
ClosesAt u v = Parts u v × ((w : Place) × CharAt v char.close_brace w)

-- `close` is the offset of the brace that closes the text from `u`, or `None` if no brace does
abbrev pub IsCloseOf : Place → Option ℕ → Type 0
IsCloseOf u close = MatchOption close (NeverCloses u) (λ at. ClosesAt u (place u.text at))

-- in `closing`, `close` is the offset of the brace that closes `text` from the offset `start`, or `None` if no brace does
abbrev pub IsClosing : List ℕ → Closing → Type 0
IsClosing text closing = IsCloseOf (place text closing.start) closing.close

-- each of `closings` is a closing of `text`
abbrev pub AreClosings : List ℕ → List Closing → Type 0
AreClosings text closings = All (IsClosing text) closings
