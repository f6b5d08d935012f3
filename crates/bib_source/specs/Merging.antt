-- Machinery: words of private contracts.
-- Merged lines with more lines appended to them.
use Rattle.std.specs.Prelude.{◌≡◌, ℕ, List, ◌++◌}
use Rattle.bib_source.specs.Comparison.{AreRuns, old_side, new_side}
use Rattle.bib_source.specs.declared.comparison.Line.{Line}

-- `after` is `before` with lines appended whose old side is `old` and whose new side is `new`
pub record Extends (before after : List Line) (old new : List (List ℕ)) : Type 0 where
  pub lines : List Line
  pub is : after ≡ before ++ lines
  pub old_is : old_side lines ≡ old
  pub new_is : new_side lines ≡ new

-- with any runs appended, the lines are runs
abbrev pub IsOpen : List Line → Type 0
IsOpen lines = (more : List Line) → AreRuns more → AreRuns (lines ++ more)
