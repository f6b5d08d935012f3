-- Meaning: words of public contracts.
-- The unified format, which GNU diff prints and patch reads.
use Rattle.std.specs.Prelude.{◌≡◌, ℕ, ◌-◌, List, [], ◌∷◌, ◌++◌, codes, cond, length, nat_eq}
use Rattle.std.specs.Fmt.{decimal}
use Rattle.std.specs.List.{AllByRecursion, ends_with, flat_map}
use lib.Dec.{eqb}
use Rattle.bib_source.specs.Comparison.{AreRuns, old_side, new_side}
use Rattle.bib_source.specs.Hunks.{AreBetweenEnds, Hunk, IsNarrow, Make}
use Rattle.bib_source.specs.Lines.{lines_of}
use Rattle.bib_source.specs.declared.comparison.Line.{Line}
use Rattle.bib_source.specs.declared.comparison.Line.TheVariants.{Context, Removed, Added}

-- the text after a line: empty if it ends with a line feed; otherwise a line feed and a line that reports its absence
abbrev pub line_end : List ℕ → List ℕ
line_end line = cond (ends_with eqb line (codes "\n")) [] (codes "\n\\ No newline at end of file\n")

-- `sign`, a line and its end
abbrev pub line_after : List ℕ → List ℕ → List ℕ
line_after sign line = sign ++ (line ++ line_end line)

-- a line after its sign: a space for a line of both texts, `-` for a removed line, `+` for an added line
abbrev pub diff_line : Line → List ℕ
diff_line (Context line) = line_after (codes " ") line.now
diff_line (Removed line) = line_after (codes "-") line.now
diff_line (Added line) = line_after (codes "+") line.now

-- a line number and the number of lines; if there are no lines, the line number is that of the line before
abbrev pub extent : ℕ → ℕ → List ℕ
extent number count = decimal (cond (nat_eq count 0) (number - 1) number) ++ (codes "," ++ decimal count)

-- the header line of a hunk: the extents of its lines in the old and in the new text
abbrev pub hunk_header : Hunk → List ℕ
hunk_header hunk =
    codes "@@ -"
    ++
    (extent hunk.old (length (old_side hunk.lines))
    ++ (codes " +" ++ (extent hunk.new (length (new_side hunk.lines)) ++ codes " @@\n")))

-- a hunk: its header and its lines
abbrev pub hunk_text : Hunk → List ℕ
hunk_text hunk = hunk_header hunk ++ flat_map diff_line hunk.lines

-- two lines with the name of the file, and the hunks; empty if there are no hunks
abbrev pub unified_text : List ℕ → List Hunk → List ℕ
unified_text name [] = []
unified_text name (hunk ∷ hunks) = codes "--- " ++ (name ++ (codes "\n+++ " ++ (name ++ (codes "\n" ++ flat_map hunk_text (hunk ∷ hunks)))))

-- `text` is a unified diff from `old` to `new`: its hunks are narrow and turn the lines of `old` into those of `new`. No line of
-- the common start or of the common end is shown as changed. In each run of changed lines the removed lines are before the added
-- ones, and these neither begin nor end with the same line. If the texts are equal, there are no hunks.
pub record IsDiff (name old new text : List ℕ) : Type 0 where
  pub hunks : List Hunk
  pub make : Make 1 1 hunks (lines_of old) (lines_of new)
  pub narrow : AllByRecursion IsNarrow hunks
  pub between : AreBetweenEnds (lines_of old) (lines_of new) hunks
  pub runs : AllByRecursion (λ hunk. AreRuns hunk.lines) hunks
  pub same : old ≡ new → hunks ≡ []
  pub is : text ≡ unified_text name hunks
