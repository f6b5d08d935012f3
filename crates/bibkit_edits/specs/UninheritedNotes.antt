-- Meaning: words of public contracts.
-- Notes on the fields of parents that entries lack when inherited fields are written out.
use Rattle.std.specs.Prelude.{◌≡◌, ◌++◌, ℕ, List, [], ◌∷◌, codes}
use Rattle.std.specs.Fmt.{decimal}
use Rattle.std.specs.List.{flat_map}
use Rattle.bib_collections.specs.Graph.{HasNoCycle}
use Rattle.bib_source.specs.Positions.{position_at}
use Rattle.bib_source.specs.declared.positions.Position.{Position}
use Rattle.bib_syntax.specs.Grammar.{IsFile}
use Rattle.edit_entries.specs.Documents.{Document}
use Rattle.edit_resolve.specs.Parents.{parent_graph}
use Rattle.edit_resolve.specs.Uninherited.{Uninherited, uninherited}
use Rattle.bibkit_edits.specs.Edited.{IsDocumentOf}

-- a name after a comma, in backticks
abbrev pub next_name : List ℕ → List ℕ
next_name name = codes ", `" ++ (name ++ codes "`")

-- names in backticks, with commas between them
abbrev pub name_list : List (List ℕ) → List ℕ
name_list [] = []
name_list (name ∷ names) = (codes "`" ++ (name ++ codes "`")) ++ flat_map next_name names

-- the note on fields of a parent that an entry lacks, whose reference is at this position of the file with this name
abbrev pub uninherited_note : List ℕ → Position → Uninherited → List ℕ
uninherited_note name place u =
    name ++ (codes ":" ++ (decimal place.line ++ (codes ":" ++ (decimal place.column ++ (codes ": note: entry `" ++ (u.entry.key.text
    ++ (codes "` doesn't inherit " ++ (name_list u.names ++ (codes " of `" ++ (u.parent.key.text ++ codes "`\n"))))))))))

-- the notes on fields of parents that entries of a text lack
abbrev pub uninherited_lines : List ℕ → List ℕ → List Uninherited → List ℕ
uninherited_lines name text found = flat_map (λ u. uninherited_note name (position_at text u.reference.name.start) u) found

-- these are the notes on a document: one for each `Uninherited`, or none if an entry inherits from itself
pub record AreNotesOn (name : List ℕ) (d : Document) (notes : List ℕ) : Type 0 where
  pub found : HasNoCycle (parent_graph d.says.entries) → notes ≡ uninherited_lines name d.text (uninherited d.says.entries)
  pub cycle : (HasNoCycle (parent_graph d.says.entries) → ⊥) → notes ≡ []

-- these are the notes on a text: those on its document, or none if it has an error that makes parsing fail
pub data AreUninheritedNotes (name text : List ℕ) : List ℕ → Type 0 where
  notes : {notes : List ℕ} {d : Document} → IsDocumentOf text d → AreNotesOn name d notes → AreUninheritedNotes name text notes
  none : (IsFile text → ⊥) → AreUninheritedNotes name text []
