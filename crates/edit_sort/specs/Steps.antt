-- Machinery: words of private contracts.
-- Gaps, spaces and items of the entries from an index on, as a loop collects them, and the text that a loop writes.
use Rattle.std.specs.Prelude.{◌==◌, ℕ, ◌+◌, Bool, List, [], ◌∷◌, ◌++◌, cond}
use Rattle.bib_text.specs.Characters as char
use Rattle.bib_syntax.specs.Reading.{EntryReading}
use Rattle.bib_syntax.specs.Recovery.{has_byte}
use Rattle.edit_sort.specs.Sorted.{Item, comment_in, entry_bytes, entry_place, gap_before, rank, space_in}

-- the gaps before entries, the first of which begins at an offset
abbrev pub gaps_from : List ℕ → ℕ → List EntryReading → List (List ℕ)
gaps_from text at [] = []
gaps_from text at (e ∷ es) = gap_before text at e ∷ gaps_from text (e.end + 1) es

-- the spaces before entries from an index on
abbrev pub spaces_from : List ℕ → ℕ → ℕ → List EntryReading → List (List ℕ)
spaces_from text index at [] = []
spaces_from text index at (e ∷ es) = space_in (index == 0) (gap_before text at e) ∷ spaces_from text (index + 1) (e.end + 1) es

-- the text after a line if it is blank, otherwise the text that was kept before
abbrev pub kept_after : Bool → List ℕ → List ℕ → List ℕ
kept_after blank after kept = cond blank after kept

-- the run after a gap: the next run if the gap contains an at sign, otherwise the same
abbrev pub run_after : ℕ → List ℕ → ℕ
run_after run gap = cond (has_byte char.at gap) (run + 1) run

-- the items of entries from an index on; the first gap begins at an offset, and the entry before it has this run
abbrev pub items_from : List EntryReading → List ℕ → List ℕ → ℕ → ℕ → ℕ → List EntryReading → List Item
items_from all text places index at run [] = []
items_from all text places index at run (e ∷ es) =
    let gap = gap_before text at e in
    record {
      run = run_after run gap;
      rank = rank all e;
      place = entry_place all places e;
      comment = comment_in (index == 0) gap;
      entry = e;
    }
    ∷ items_from all text places (index + 1) (e.end + 1) (run_after run gap) es

-- the offset after the last of some entries, or `at` if there are none
abbrev pub place_after : ℕ → List EntryReading → ℕ
place_after at [] = at
place_after at (e ∷ es) = place_after (e.end + 1) es

-- the text of some entries in order, each after a space and its comment, followed by the rest of a text
abbrev pub items_laid_out : List ℕ → List (List ℕ) → List Item → List ℕ → List ℕ
items_laid_out text [] order rest = rest
items_laid_out text (space ∷ spaces) [] rest = rest
items_laid_out text (space ∷ spaces) (i ∷ order) rest =
    space ++ (i.comment ++ (entry_bytes text i.entry ++ items_laid_out text spaces order rest))
