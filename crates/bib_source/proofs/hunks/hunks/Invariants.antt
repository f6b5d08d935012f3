use Rattle.std.proofs.Common.{◌≡◌, false, length, ◌-◌, ◌<◌, ◌≤◌, ◌++◌, List, ℕ, map, take}
use Rattle.std.specs.List.{AllByRecursion}
use Rattle.bib_source.specs.Comparison.{new_side, old_side}
use Rattle.bib_source.specs.Visible.{IsCutOut, hunk_of, is_visible}
use Rattle.bib_source.specs.Hunks.{Hunk, IsNarrow, Make}
use Rattle.bib_source.proofs.CutFacts.{AreNumbersAt}
use Rattle.bib_source.proofs.hunks.hunks.Given as goal

-- If more hunks turn the remaining old lines into the remaining new ones, the hunks so far and these turn all old lines into
-- all new ones. Each hunk so far is narrow, and cut from the lines. `old` and `new` are the line numbers at `at`. The line there, if
-- any, is hidden unless it is the first.
abbrev pub invariant-hunks : goal.invariant-hunks
invariant-hunks l = record {
  make : (more : List Hunk) (rest rest' : List (List ℕ)) → Make l.old l.new more rest rest'
      → Make 1 1 (map hunk_of l.hunks.items ++ more) (old_side (take l.at l.lines) ++ rest) (new_side (take l.at l.lines) ++ rest');
  narrow : AllByRecursion IsNarrow (map hunk_of l.hunks.items);
  cut : AllByRecursion (IsCutOut l.lines) (map hunk_of l.hunks.items);
  numbers : AreNumbersAt l.lines l.at l.old l.new;
  ended : 0 < l.at → l.at < length l.lines → is_visible l.lines l.at ≡ false;
  within : l.at ≤ length l.lines;
}

abbrev pub decreases-hunks : goal.decreases-hunks
decreases-hunks l = length l.lines - l.at
