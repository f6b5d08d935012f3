-- Meaning: words of public contracts.
-- Notes on references that stay as they are when an edit gives entries new keys, although they name such an entry.
use Rattle.std.specs.Prelude.{◌≡◌, ◌++◌, ℕ, if◌then◌else◌, List, [], Option, None, Some, bytes_eq, codes}
use Rattle.std.specs.Fmt.{decimal}
use Rattle.std.specs.List.{flat_map}
use Rattle.bib_source.specs.Positions.{position_at}
use Rattle.bib_source.specs.declared.positions.Position.{Position}
use Rattle.bib_syntax.specs.Grammar.{IsFile}
use Rattle.bib_syntax.specs.Reading.{EntryReading}
use Rattle.edit_entries.specs.Documents.{Document, first_position, is_keyed}
use Rattle.edit_entries.specs.References.{given_keys, only}
use Rattle.edit_strings.specs.Left.{AreLeft, Left}
use Rattle.bibkit_edits.specs.Edited.{IsDocumentOf}
use Rattle.bibkit_edits.specs.declared.edit.Edit.{Edit}
use Rattle.bibkit_edits.specs.declared.edit.Edit.TheVariants.{Rename, RenameAll}

-- the new key of the entry at `index`: `new` if the first argument is this index, and none otherwise
abbrev pub new_key_at : Option ℕ → List ℕ → ℕ → Option (List ℕ)
new_key_at None new index = None
new_key_at (Some one) new index = only one new index

-- the new key of the first entry with the key `old`; none if the new key is `old`
abbrev pub renamed_key : List EntryReading → List ℕ → List ℕ → ℕ → Option (List ℕ)
renamed_key entries old new index =
    if bytes_eq old new then None else new_key_at (first_position (is_keyed old) entries) new index

-- the new keys that an edit gives these entries, by their indices
abbrev pub edit_keys : Edit → List EntryReading → ℕ → Option (List ℕ)
edit_keys (Rename old new) entries index = renamed_key entries old.now new.now index
edit_keys (RenameAll keys) entries index = given_keys keys.now index
edit_keys _ entries index = None

-- the note on a reference whose field is at this position of the file with this name
abbrev pub left_note : List ℕ → Position → Left → List ℕ
left_note name place left =
    name ++ (codes ":" ++ (decimal place.line ++ (codes ":" ++ (decimal place.column ++ (codes ": note: `" ++ (left.field.name.text
    ++ (codes "` of entry `" ++ (left.entry.key.text ++ (codes "` names `" ++ (left.name
    ++ codes "` by an abbreviation or in parts, so it isn't changed\n"))))))))))

-- the note on each of these references of a text
abbrev pub left_lines : List ℕ → List ℕ → List Left → List ℕ
left_lines name text left = flat_map (λ l. left_note name (position_at text l.field.name.start) l) left

-- these are the notes on the references of a document that stay when an edit gives its entries new keys
pub record AreDocumentNotes (name : List ℕ) (edit : Edit) (d : Document) (notes : List ℕ) : Type 0 where
  pub left : List Left
  pub are : AreLeft d.says (edit_keys edit d.says.entries) left
  pub is : notes ≡ left_lines name d.text left

-- these are the notes on a text: those on its document, or none if it has an error that makes parsing fail
pub data AreLeftNotes (name : List ℕ) (edit : Edit) (text : List ℕ) : List ℕ → Type 0 where
  notes : {notes : List ℕ} {d : Document} → IsDocumentOf text d → AreDocumentNotes name edit d notes → AreLeftNotes name edit text notes
  none : (IsFile text → ⊥) → AreLeftNotes name edit text []
