-- Meaning: words of public contracts.
-- Lists of edits that are made in one pass over a text.
use Rattle.std.specs.Prelude.{ℕ, ◌≤◌, List, [], ◌∷◌, ⊤}
use Rattle.std.specs.Str.{IsCharBoundary}
use Rattle.std.specs.String.{string_bytes}
use Rattle.edit_entries.specs.Edits as edits
use Rattle.edit_entries.specs.declared.editing.Edit.{Edit}

-- an edit, by the bytes of its text
abbrev pub edit_of : Edit → edits.Edit
edit_of e = record { start = e.start; end = e.end; bytes = string_bytes e.text }

-- edits in order from a byte offset on: their stretches don't overlap, and each may be cut out of the text
abbrev pub AreEditsInOrder : List ℕ → ℕ → List edits.Edit → Type 0
AreEditsInOrder text at [] = ⊤
AreEditsInOrder text at (edit ∷ rest) =
    (at ≤ edit.start) × (edit.start ≤ edit.end) × IsCharBoundary text edit.start × IsCharBoundary text edit.end
    × AreEditsInOrder text edit.end rest
