-- Machinery: words of private contracts.
-- Edits that are made in one pass over the text.
use Rattle.std.specs.Prelude.{◌≡◌, ℕ, ◌≤◌, List, [], ◌∷◌, slice_get, Some, ⊤}
use Rattle.std.specs.Char.{is_whitespace}
use Rattle.std.specs.Str.{IsCharBoundary}
use Rattle.bib_text.specs.Places.{Run, place}
use Rattle.bib_syntax.specs.Reading.{EntryReading, FieldReading}
use Rattle.edit_entries.specs.Placed.{IsPlaced}
use Rattle.edit_entries.specs.References.{Change, change_edit}

-- the value of each field may be cut out of a text
abbrev pub AreValuesPlaced : List ℕ → List FieldReading → Type 0
AreValuesPlaced text fields = (j : ℕ) (f : FieldReading) → slice_get fields j ≡ Some f → IsPlaced text f

-- the values of the fields of entries may be cut out of a text
abbrev pub AreEntriesPlaced : List ℕ → List EntryReading → Type 0
AreEntriesPlaced text entries = (k : ℕ) (e : EntryReading) → slice_get entries k ≡ Some e → AreValuesPlaced text e.fields

-- the byte offset at which the part that a change replaces begins
abbrev pub change_start : Change → ℕ
change_start (Change.key p new) = p.start
change_start (Change.value f new) = f.value.start

-- the byte offset at which the part ends
abbrev pub change_end : Change → ℕ
change_end (Change.key p new) = p.end
change_end (Change.value f new) = f.value.end

-- the changed parts are in order in a text from a byte offset on, and may be cut out
abbrev pub AreChangesInOrder : List ℕ → ℕ → List Change → Type 0
AreChangesInOrder text at [] = ⊤
AreChangesInOrder text at (change ∷ rest) =
    (at ≤ change_start change) × (change_start change ≤ change_end change) × IsCharBoundary text (change_start change)
    × IsCharBoundary text (change_end change) × AreChangesInOrder text (change_end change) rest

-- only white space is between the end of a change's stretch and the end of the changed part. The text may be cut at the first of these
abbrev pub EndsInWhite : List ℕ → Change → Type 0
EndsInWhite text (Change.key p new) = ⊤
EndsInWhite text (Change.value f new) =
    Run is_whitespace (place text (change_edit text (Change.value f new)).end) (place text f.value.end)
    × IsCharBoundary text (change_edit text (Change.value f new)).end
