-- Meaning: words of public contracts.
-- The roles of editors, which are the values of `editortype`, as the Rust crate `biblatex` lists them.
use Rattle.std.specs.Prelude.{ℕ, List, [], ◌∷◌, Option, codes, unwrap_or}
use Rattle.bib_tables.specs.declared.types.EditorType.{EditorType}
use Rattle.bib_tables.specs.declared.types.EditorType.TheVariants.{Editor, Compiler, Founder, Continuator, Redactor, Reviser, Collaborator, Organizer, Director, Unknown}
use Rattle.bib_text.specs.Enums.{value_named, by_name}

-- the name of a role; an unknown role has its text as name
abbrev pub editor_type_name : EditorType → List ℕ
editor_type_name Editor = codes "editor"
editor_type_name Compiler = codes "compiler"
editor_type_name Founder = codes "founder"
editor_type_name Continuator = codes "continuator"
editor_type_name Redactor = codes "redactor"
editor_type_name Reviser = codes "reviser"
editor_type_name Collaborator = codes "collaborator"
editor_type_name Organizer = codes "organizer"
editor_type_name Director = codes "director"
editor_type_name (Unknown text) = text

-- the table of the known roles and their names
abbrev pub editor_types : List (List ℕ × EditorType)
editor_types =
    by_name editor_type_name
    (Editor ∷ Compiler ∷ Founder ∷ Continuator ∷ Redactor ∷ Reviser ∷ Collaborator ∷ Organizer ∷ Director ∷ [])

-- the known role with exactly this name, or `None`
abbrev pub editor_type_named : List ℕ → Option EditorType
editor_type_named = value_named editor_types

-- the role that `text` means: the known role with exactly this name, and otherwise the unknown role with this text
abbrev pub editor_type_of : List ℕ → EditorType
editor_type_of text = unwrap_or (editor_type_named text) (Unknown text)
