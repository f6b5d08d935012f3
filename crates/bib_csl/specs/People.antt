-- Meaning: words of public contracts.
-- The people of an item.
use Rattle.std.specs.Prelude.{ℕ, Bool, true, false, ◌&&◌, ◌||◌, ◌==◌, if◌then◌else◌, List, [], ◌∷◌, ◌++◌, length, codes, bytes_eq, Option, Some, None}
use Rattle.std.specs.List.{flat_map, list_all, list_any}
use Rattle.std.specs.Option.{unwrap_or}
use Rattle.std.specs.Str.{chars}
use Rattle.bib_chunks.specs.declared.chunk.Chunk.{Chunk}
use Rattle.bib_chunks.specs.declared.chunk.Chunk.TheVariants.{Normal, Verbatim, Math}
use Rattle.bib_chunks.specs.Cuts.{and_list, comma_list}
use Rattle.bib_chunks.specs.Values.{Value, text}
use Rattle.bib_entry.specs.declared.entry.Entry.{Entry}
use Rattle.bib_entry.specs.Editors.{role_of}
use Rattle.bib_tables.specs.declared.types.EditorType.{EditorType}
use Rattle.bib_tables.specs.declared.types.EditorType.TheVariants as role
use Rattle.bib_people.specs.declared.person.Person.{Person}
use Rattle.bib_people.specs.Names.{person_of}
use Rattle.bib_csl.specs.declared.item.Field.{Field}
use Rattle.bib_csl.specs.declared.item.Name.{Name}
use Rattle.bib_csl.specs.declared.item.Name.TheVariants.{Literal, Parts}
use Rattle.bib_csl.specs.declared.item.NameParts.{NameParts}
use Rattle.bib_csl.specs.declared.item_types.ItemType.{ItemType}
use Rattle.bib_csl.specs.declared.item_types.ItemType.TheVariants as item_type
use Rattle.bib_csl.specs.declared.variables.Variable.{Variable}
use Rattle.bib_csl.specs.declared.variables.Variable.TheVariants.{Author, Editor, Compiler, Director, Organizer, Translator, ContainerAuthor}
use Rattle.bib_csl.specs.Fields.{given_people}
use Rattle.bib_csl.specs.Markup.{loosened}
use Rattle.bib_csl.specs.Tables.{field_in_table, variable_name}
use Rattle.bib_csl.specs.Texts.{field}

-- whether a chunk is verbatim (in braces), or normal and empty
abbrev pub is_braced : Chunk → Bool
is_braced (Normal chars) = length chars == 0
is_braced (Verbatim chars) = true
is_braced (Math chars) = false

-- whether a name has no parts: it is empty, in braces, or the word `others`
unfoldable pub is_literal : Value → Bool
is_literal chunks = list_all (λ c. is_braced c.v) chunks || bytes_eq (text chunks) (codes "others")

-- the text of a name or of a part of it, with spaces for tildes
abbrev pub loosened_name : List ℕ → List ℕ
loosened_name text = loosened (chars text)

-- the parts of a person's name; the flag says whether the prefix is part of the family name (a non-dropping particle)
unfoldable pub parts_with : Bool → Person → NameParts
parts_with true p = record {
  family = loosened_name p.name;
  given = loosened_name p.given_name;
  suffix = loosened_name p.suffix;
  dropping_particle = [];
  non_dropping_particle = loosened_name p.prefix;
}
parts_with false p = record {
  family = loosened_name p.name;
  given = loosened_name p.given_name;
  suffix = loosened_name p.suffix;
  dropping_particle = loosened_name p.prefix;
  non_dropping_particle = [];
}

-- the name in chunks; the flag says whether a prefix is part of the family name. If the name has the key `useprefix` of the extended name
-- format, that key decides instead.
unfoldable pub name_said : Bool → Value → Name
name_said uses_prefix chunks =
    if is_literal chunks then Literal (loosened_name (text chunks))
    else Parts (parts_with (unwrap_or (person_of chunks).use_prefix uses_prefix) (person_of chunks))

-- whether a name is empty
unfoldable pub says_nothing : Name → Bool
says_nothing (Literal text) = length text == 0
says_nothing (Parts p) =
    (length p.family == 0) && ((length p.given == 0) && ((length p.suffix == 0)
    && ((length p.dropping_particle == 0) && (length p.non_dropping_particle == 0))))

-- a name, unless it is empty
unfoldable pub unless_empty : Name → List Name
unless_empty name = if says_nothing name then [] else name ∷ []

-- the names of a list of people, except empty ones
unfoldable pub names_listed : Bool → Value → List Name
names_listed uses_prefix chunks = flat_map (λ part. unless_empty (name_said uses_prefix part)) (and_list chunks)

-- the names of a field
unfoldable pub names_said : Bool → Option Value → List Name
names_said uses_prefix None = []
names_said uses_prefix (Some chunks) = names_listed uses_prefix chunks

-- whether an option of an entry is one of these three texts, which say that prefixes are part of family names
unfoldable pub is_prefix_option : List ℕ → Bool
is_prefix_option option = list_any (bytes_eq option) (codes "useprefix" ∷ codes "useprefix=true" ∷ codes "useprefix = true" ∷ [])

-- whether one of the options says that prefixes are part of family names
abbrev pub uses_prefix_in : Option Value → Bool
uses_prefix_in None = false
uses_prefix_in (Some options) = list_any (λ option. is_prefix_option (text option)) (comma_list options)

-- whether prefixes are part of family names in an entry
unfoldable pub uses_prefix : Entry → Bool
uses_prefix entry = uses_prefix_in (field entry (codes "options"))

-- the variable of editors with this role: `compiler`, `director` or `organizer` for these roles, and `editor` for any other
abbrev pub variable_of_role : EditorType → Variable
variable_of_role role.Compiler = Compiler
variable_of_role role.Director = Director
variable_of_role role.Organizer = Organizer
variable_of_role other = Editor

-- whether editors with this role are in the variable
unfoldable pub is_under : Variable → EditorType → Bool
is_under variable role = bytes_eq (variable_name (variable_of_role role)) (variable_name variable)

-- the people in the field `people`, if the role in the field `role` belongs to the variable
unfoldable pub editors_listed : Variable → Entry → List ℕ → List ℕ → List Name
editors_listed variable entry people role =
    if is_under variable (role_of (field entry role)) then names_said (uses_prefix entry) (field entry people) else []

-- the editors of an entry whose role belongs to the variable
unfoldable pub editors_under : Variable → Entry → List Name
editors_under variable entry =
    editors_listed variable entry (codes "editor") (codes "editortype") ++
    (editors_listed variable entry (codes "editora") (codes "editoratype") ++
    (editors_listed variable entry (codes "editorb") (codes "editorbtype") ++
    editors_listed variable entry (codes "editorc") (codes "editorctype")))

-- the editors, each in the variable of the role
unfoldable pub editor_fields : Entry → List Field
editor_fields entry =
    given_people Editor (editors_under Editor entry) ++
    (given_people Compiler (editors_under Compiler entry) ++
    (given_people Director (editors_under Director entry) ++
    given_people Organizer (editors_under Organizer entry)))

-- the people in the field of this name
unfoldable pub people : Entry → List ℕ → List Name
people entry name = names_said (uses_prefix entry) (field entry name)

-- a variable with the people in its field in the table of variables, unless there are none
unfoldable pub given_people_in : Variable → Entry → List Field
given_people_in variable entry = given_people variable (people entry (field_in_table variable))

-- whether the item is a patent
abbrev pub is_patent : ItemType → Bool
is_patent item_type.Patent = true
is_patent other = false

-- the authors, or the holders of a patent without authors
unfoldable pub authors_of : ItemType → Entry → List Name
authors_of kind entry =
    if is_patent kind && (length (people entry (codes "author")) == 0) then people entry (codes "holder")
    else people entry (codes "author")

-- the authors, the editors by role, the translators and the authors of the container
unfoldable pub people_fields : ItemType → Entry → List Field
people_fields kind entry =
    given_people Author (authors_of kind entry) ++
    (editor_fields entry ++
    (given_people_in Translator entry ++ given_people_in ContainerAuthor entry))
