-- Machinery: words of private contracts.
-- The spans of entries, of the comments before them and of gaps: their ends are character boundaries of a text.
use Rattle.std.specs.Prelude.{ℕ, ◌+◌, ◌-◌, ◌≤◌, ◌==◌, List, [], ◌∷◌, length}
use Rattle.std.specs.Str.{IsCharBoundary}
use Rattle.bib_syntax.specs.Reading.{EntryReading}
use Rattle.edit_entries.specs.Cuts.{CanBeCut}
use Rattle.edit_sort.specs.Sorted.{Item, comment_in, gap_before}

-- the spans of the gap before an entry, of its comment and of the entry are in order. Their ends are character boundaries of a
-- text
pub record IsItemCut (text : List ℕ) (index at : ℕ) (e : EntryReading) : Type 0 where
  pub gap : CanBeCut text at e.start
  pub some : e.start ≤ e.end
  pub small : length (comment_in (index == 0) (gap_before text at e)) ≤ e.start
  pub space : CanBeCut text at (e.start - length (comment_in (index == 0) (gap_before text at e)))
  pub whole : CanBeCut text e.start (e.end + 1)

-- the spans of the entries from an index on, of their gaps and comments are in order, and their ends are character boundaries. The
-- gap before the first entry begins at an offset
abbrev pub AreItemsCut : List ℕ → ℕ → ℕ → List EntryReading → Type 0
AreItemsCut text index at [] = IsCharBoundary text at
AreItemsCut text index at (e ∷ es) = IsItemCut text index at e × AreItemsCut text (index + 1) (e.end + 1) es

-- the ends of an entry are character boundaries of a text
abbrev pub IsEntryOfItemCut : List ℕ → Item → Type 0
IsEntryOfItemCut text i = CanBeCut text i.entry.start (i.entry.end + 1)
