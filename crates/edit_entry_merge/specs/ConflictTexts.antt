-- Meaning: words of public contracts.
-- Two texts as one, with marker lines around the lines in which they differ.
use Rattle.std.specs.Prelude.{◌≡◌, ◌==◌, ◌+◌, ◌-◌, ℕ, Bool, false, List, [], ◌∷◌, ◌++◌, Option, Some, None, bytes_eq, cond, drop, length, reverse, take}
use Rattle.std.specs.List.{slice_split}
use Rattle.bib_text.specs.Characters as char
use Rattle.edit_entry_merge.specs.declared.conflict_text.Markers.{Markers}

-- the lines of a text: the texts between its line feeds
abbrev pub lines : List ℕ → List (List ℕ)
lines text = slice_split (λ c. c == char.line_feed) text

-- the lines of a text, or none if there is no text
abbrev pub optional_lines : Option (List ℕ) → List (List ℕ)
optional_lines None = []
optional_lines (Some text) = lines text

-- lines with a line feed between each two of them
abbrev pub lines_as_text : List (List ℕ) → List ℕ
lines_as_text [] = []
lines_as_text (l ∷ []) = l
lines_as_text (l ∷ m ∷ ls) = l ++ char.line_feed ∷ lines_as_text (m ∷ ls)

-- the lines around the two parts of a conflict
pub record MarkerLines : Type 0 where
  pub ours : List ℕ
  pub middle : List ℕ
  pub theirs : List ℕ

-- the markers that a value of the code represents
abbrev pub marker_lines : Markers → MarkerLines
marker_lines m = record { ours = m.ours.now; middle = m.middle.now; theirs = m.theirs.now }

-- the lines of two texts: those that both have at their start, those in which they differ, and those that both have at their end
pub record ConflictParts : Type 0 where
  pub start : List (List ℕ)
  pub ours : List (List ℕ)
  pub theirs : List (List ℕ)
  pub end : List (List ℕ)

-- whether two lists of lines begin with the same line
abbrev pub begin_with_same : List (List ℕ) → List (List ℕ) → Bool
begin_with_same [] ms = false
begin_with_same (l ∷ ls) [] = false
begin_with_same (l ∷ ls) (m ∷ ms) = bytes_eq l m

-- whether two lists of lines end with the same line
abbrev pub end_alike : List (List ℕ) → List (List ℕ) → Bool
end_alike ls ms = begin_with_same (reverse ls) (reverse ms)

-- Two lists of lines have these parts. What is after the start doesn't begin with the same line on both sides, and the lines in which they
-- differ don't end with the same line.
pub record AreConflictParts (ours theirs : List (List ℕ)) (p : ConflictParts) : Type 0 where
  pub our_lines : ours ≡ p.start ++ (p.ours ++ p.end)
  pub their_lines : theirs ≡ p.start ++ (p.theirs ++ p.end)
  pub start_is_longest : begin_with_same (p.ours ++ p.end) (p.theirs ++ p.end) ≡ false
  pub end_is_longest : end_alike p.ours p.theirs ≡ false

-- the lines in which ours and theirs differ, with marker lines before, between and after them; no lines if both are empty
abbrev pub between_markers : MarkerLines → List (List ℕ) → List (List ℕ) → List (List ℕ)
between_markers m [] [] = []
between_markers m [] (t ∷ theirs) = m.ours ∷ m.middle ∷ (t ∷ theirs) ++ m.theirs ∷ []
between_markers m (o ∷ ours) theirs = m.ours ∷ (o ∷ ours) ++ (m.middle ∷ theirs ++ m.theirs ∷ [])

-- the lines of both texts, with markers
abbrev pub marked_lines : MarkerLines → ConflictParts → List (List ℕ)
marked_lines m p = p.start ++ (between_markers m p.ours p.theirs ++ p.end)

-- a text has the lines of two lists, with marker lines around those in which they differ
pub record IsMarkedText (m : MarkerLines) (ours theirs : List (List ℕ)) (text : List ℕ) : Type 0 where
  pub parts : ConflictParts
  pub are : AreConflictParts ours theirs parts
  pub is : text ≡ lines_as_text (marked_lines m parts)

-- a text is two texts as one, with marker lines around the lines in which they differ. A text may be absent: it has no lines
abbrev pub IsConflictText : MarkerLines → Option (List ℕ) → Option (List ℕ) → List ℕ → Type 0
IsConflictText m ours theirs text = IsMarkedText m (optional_lines ours) (optional_lines theirs) text

-- ---- the same as a function

-- the number of lines that two lists share at their start
abbrev pub shared_lines : List (List ℕ) → List (List ℕ) → ℕ
shared_lines [] ms = 0
shared_lines (l ∷ ls) [] = 0
shared_lines (l ∷ ls) (m ∷ ms) = cond (bytes_eq l m) (1 + shared_lines ls ms) 0

-- the parts of two lists of lines: the start is cut off, and then the end
abbrev pub conflict_parts : List (List ℕ) → List (List ℕ) → ConflictParts
conflict_parts ours theirs =
    let start = shared_lines ours theirs in
    let our_rest = drop start ours in
    let their_rest = drop start theirs in
    let end = shared_lines (reverse our_rest) (reverse their_rest) in
    record {
      start = take start ours;
      ours = take (length our_rest - end) our_rest;
      theirs = take (length their_rest - end) their_rest;
      end = drop (length our_rest - end) our_rest;
    }

-- two texts as one, with marker lines around the lines in which they differ. A text may be absent: it has no lines
abbrev pub conflict_text : MarkerLines → Option (List ℕ) → Option (List ℕ) → List ℕ
conflict_text m ours theirs = lines_as_text (marked_lines m (conflict_parts (optional_lines ours) (optional_lines theirs)))
