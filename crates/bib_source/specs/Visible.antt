-- Machinery: words of private contracts.
-- Which lines of two compared texts are shown.
use Rattle.std.specs.Prelude.{◌≡◌, ℕ, ◌+◌, ◌-◌, min, Bool, false, List, [], ◌∷◌, ◌++◌, drop, length, take}
use Rattle.std.specs.List.{AllByRecursion, list_any}
use Rattle.bib_source.specs.Comparison.{is_changed, new_side, old_side}
use Rattle.bib_source.specs.Hunks.{Hunk}
use Rattle.bib_source.specs.declared.comparison.Line.{Line}
use Rattle.bib_source.specs.declared.hunks.Hunk as code

-- the lines at most three lines from the one at `index`, which is included
abbrev pub near : List Line → ℕ → List Line
near lines index = take (min (length lines) (index + 4) - (index - 3)) (drop (index - 3) lines)

-- whether the line at `index` is shown: whether a line at most three lines from it has changed
abbrev pub is_visible : List Line → ℕ → Bool
is_visible lines index = list_any is_changed (near lines index)

-- each of the lines is in both texts
abbrev pub AreContext : List Line → Type 0
AreContext lines = AllByRecursion (λ line. is_changed line ≡ false) lines

-- the hunk of the code, with the lines that it borrows
abbrev pub hunk_of : code.Hunk → Hunk
hunk_of hunk = record { old = hunk.old; new = hunk.new; lines = hunk.lines.now }

-- the last line, if there is one, is in both texts
abbrev pub EndsInContext : List Line → Type 0
EndsInContext lines = (before : List Line) (line : Line) → lines ≡ before ++ line ∷ [] → is_changed line ≡ false

-- the first line, if there is one, is in both texts
abbrev pub BeginsWithContext : List Line → Type 0
BeginsWithContext lines = (line : Line) (rest : List Line) → lines ≡ line ∷ rest → is_changed line ≡ false

-- The lines of a hunk are consecutive lines of `lines`. The line before them and the line after them, if any, are in both texts. The
-- numbers of the hunk are one more than the numbers of old and of new lines before it.
pub record IsCutOut (lines : List Line) (hunk : Hunk) : Type 0 where
  pub before : List Line
  pub after : List Line
  pub is : lines ≡ before ++ (hunk.lines ++ after)
  pub old_is : hunk.old ≡ 1 + length (old_side before)
  pub new_is : hunk.new ≡ 1 + length (new_side before)
  pub starts : EndsInContext before
  pub ends : BeginsWithContext after
