-- Meaning: words of public contracts.
-- The editors of an entry with their roles, as in the BibLaTeX manual and the Rust crate `biblatex`.
use Rattle.std.specs.Prelude.{ℕ, List, [], ◌∷◌, ◌++◌, codes, map, Option, Some, None}
use Rattle.std.specs.Global.{Vec}
use Rattle.std.specs.FinMap as by_name
use Rattle.bib_people.specs.declared.person.Person.{Person}
use Rattle.bib_people.specs.People.{people_of}
use Rattle.bib_tables.specs.declared.types.EditorType.{EditorType}
use Rattle.bib_tables.specs.declared.types.EditorType.TheVariants.{Editor}
use Rattle.bib_values.specs.Enumerations.{editor_type_read}
use Rattle.bib_chunks.specs.Values.{Value}
use Rattle.bib_entry.specs.declared.entry.Entry.{Entry}

-- people and their role
abbrev pub Editors : Type 0
Editors = List Person × EditorType

-- the role in a field; `Editor` if the field is missing
abbrev pub role_of : Option Value → EditorType
role_of None = Editor
role_of (Some chunks) = editor_type_read chunks

-- the people of a field with the role of another field; none if the first field is missing
abbrev pub in_role : Option Value → Option Value → List Editors
in_role None role = []
in_role (Some people) role = (people_of people, role_of role) ∷ []

-- the people in the first field, with the role in the second
abbrev pub editors_in : Entry → List ℕ → List ℕ → List Editors
editors_in entry people role = in_role (by_name.get entry.fields people) (by_name.get entry.fields role)

-- the editors of an entry
abbrev pub editors_of : Entry → List Editors
editors_of entry =
    editors_in entry (codes "editor") (codes "editortype") ++
    (editors_in entry (codes "editora") (codes "editoratype") ++
    (editors_in entry (codes "editorb") (codes "editorbtype") ++
    editors_in entry (codes "editorc") (codes "editorctype")))

-- lists of people with their roles, without the capacities of the vectors
abbrev pub contents : List (Vec Person × EditorType) → List Editors
contents = map (λ each. (each.0.items, each.1))
