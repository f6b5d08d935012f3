-- Meaning: words of public contracts.
-- Hunks of a unified diff, and how they turn one text into another.
use Rattle.std.specs.Prelude.{◌≡◌, ℕ, ◌+◌, ◌<◌, ◌≤◌, true, List, [], ◌∷◌, ◌++◌, length, take, Some}
use Rattle.std.specs.Borrow.{Bor}
use Rattle.std.specs.List.{AllByRecursion, slice_get}
use Rattle.bib_source.specs.Comparison.{HaveCommonEnds, is_changed, old_side, new_side}
use Rattle.bib_source.specs.declared.comparison.Line.{Line}
use Rattle.bib_source.specs.declared.comparison.Line.TheVariants.{Removed, Added}

-- lines, and the line numbers at which they begin in the old and in the new text
pub record Hunk : Type 0 where
  pub old : ℕ
  pub new : ℕ
  pub lines : List Line

-- `index` is at most three lines from the index of a changed line
pub record IsNearChange (lines : List Line) (index : ℕ) : Type 0 where
  pub at : ℕ
  pub line : Line
  pub stands : slice_get lines at ≡ Some line
  pub changed : is_changed line ≡ true
  pub before : at ≤ index + 3
  pub after : index ≤ at + 3

-- a hunk has a line, and each of its lines is at most three lines from a changed line of the hunk
pub record IsNarrow (hunk : Hunk) : Type 0 where
  pub some : 0 < length hunk.lines
  pub near : (index : ℕ) → index < length hunk.lines → IsNearChange hunk.lines index

-- the line number in the old text of the line at `index` of a hunk, if the old text has this line
abbrev pub old_number : Hunk → ℕ → ℕ
old_number hunk index = hunk.old + length (old_side (take index hunk.lines))

-- the line number in the new text of the line at `index` of a hunk, if the new text has this line
abbrev pub new_number : Hunk → ℕ → ℕ
new_number hunk index = hunk.new + length (new_side (take index hunk.lines))

-- Lines are counted after the first `start` lines of each text. The removed lines of a hunk are among the next `removed` lines
-- of the old text. Its added lines are among the next `added` lines of the new text.
pub record IsBetween (start removed added : ℕ) (hunk : Hunk) : Type 0 where
  pub old : (index : ℕ) (line : Bor (List ℕ)) → slice_get hunk.lines index ≡ Some (Removed line)
      → (start < old_number hunk index) × (old_number hunk index ≤ start + removed)
  pub new : (index : ℕ) (line : Bor (List ℕ)) → slice_get hunk.lines index ≡ Some (Added line)
      → (start < new_number hunk index) × (new_number hunk index ≤ start + added)

-- each changed line of the hunks is after the common start of two lists of lines, and before their common end
pub record AreBetweenEnds (old new : List (List ℕ)) (hunks : List Hunk) : Type 0 where
  pub start : List (List ℕ)
  pub removed : List (List ℕ)
  pub added : List (List ℕ)
  pub end : List (List ℕ)
  pub ends : HaveCommonEnds old new start removed added end
  pub between : AllByRecursion (IsBetween (length start) (length removed) (length added)) hunks

-- Hunks turn a list of lines into another one. The two numbers are the line numbers of the first line of each list. Lines
-- before a hunk are kept. The lines of its old side are replaced by those of its new side. Lines after the last hunk are kept.
pub data Make : ℕ → ℕ → List Hunk → List (List ℕ) → List (List ℕ) → Type 0 where
  none : {old new : ℕ} {rest : List (List ℕ)} → Make old new [] rest rest
  next : {old new : ℕ} {hunk : Hunk} {hunks : List Hunk} {rest rest' : List (List ℕ)} (before : List (List ℕ))
      → hunk.old ≡ old + length before → hunk.new ≡ new + length before
      → Make (hunk.old + length (old_side hunk.lines)) (hunk.new + length (new_side hunk.lines)) hunks rest rest'
      → Make old new (hunk ∷ hunks) (before ++ (old_side hunk.lines ++ rest)) (before ++ (new_side hunk.lines ++ rest'))
