-- Meaning: words of public contracts.
-- The lines of two texts merged into one list. Each is a pair of equal lines of both texts, an unpaired line of the old text,
-- or an unpaired line of the new text.
use Rattle.std.specs.Prelude.{◌≡◌, ℕ, Bool, true, false, List, [], ◌∷◌, ◌++◌, map}
use Rattle.std.specs.Borrow.{Bor}
use Rattle.bib_source.specs.declared.comparison.Line.{Line}
use Rattle.bib_source.specs.declared.comparison.Line.TheVariants.{Context, Removed, Added}

-- the lines of the old text
abbrev pub old_side : List Line → List (List ℕ)
old_side [] = []
old_side (Context line ∷ lines) = line.now ∷ old_side lines
old_side (Removed line ∷ lines) = line.now ∷ old_side lines
old_side (Added line ∷ lines) = old_side lines

-- the lines of the new text
abbrev pub new_side : List Line → List (List ℕ)
new_side [] = []
new_side (Context line ∷ lines) = line.now ∷ new_side lines
new_side (Removed line ∷ lines) = new_side lines
new_side (Added line ∷ lines) = line.now ∷ new_side lines

-- whether a line has changed: it is removed or added
abbrev pub is_changed : Line → Bool
is_changed (Context line) = false
is_changed (Removed line) = true
is_changed (Added line) = true

-- two lists of lines don't begin with the same line
abbrev pub BeginDifferently : List (List ℕ) → List (List ℕ) → Type 0
BeginDifferently lines others =
    (line : List ℕ) (rest rest' : List (List ℕ)) → lines ≡ line ∷ rest → others ≡ line ∷ rest' → ⊥

-- two lists of lines don't end with the same line
abbrev pub EndDifferently : List (List ℕ) → List (List ℕ) → Type 0
EndDifferently lines others =
    (line : List ℕ) (before before' : List (List ℕ)) → lines ≡ before ++ line ∷ [] → others ≡ before' ++ line ∷ [] → ⊥

-- Two lists of lines begin with `start` and end with `end`, and `removed` and `added` are the lines between them. `start` is the
-- longest common start of both lists, and `end` the longest common end of the lines after it.
pub record HaveCommonEnds (old new start removed added end : List (List ℕ)) : Type 0 where
  pub old_is : old ≡ start ++ (removed ++ end)
  pub new_is : new ≡ start ++ (added ++ end)
  pub start_is_longest : BeginDifferently (removed ++ end) (added ++ end)
  pub end_is_longest : EndDifferently removed added

-- the text of each line
abbrev pub line_texts : List (Bor (List ℕ)) → List (List ℕ)
line_texts lines = map (λ line. line.now) lines

-- a run of changed lines: removed lines and then added lines, which neither begin nor end with the same line; there may be none
pub record IsRun (lines : List Line) : Type 0 where
  pub removed : List (Bor (List ℕ))
  pub added : List (Bor (List ℕ))
  pub is : lines ≡ map Removed removed ++ map Added added
  pub first : BeginDifferently (line_texts removed) (line_texts added)
  pub last : EndDifferently (line_texts removed) (line_texts added)

-- runs of changed lines, with one line of both texts between each run and the next one
pub data AreRuns : List Line → Type 0 where
  one : {run : List Line} → IsRun run → AreRuns run
  next : {run lines : List Line} (line : Bor (List ℕ)) → IsRun run → AreRuns lines → AreRuns (run ++ Context line ∷ lines)
