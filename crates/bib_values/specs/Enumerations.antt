-- Meaning: words of public contracts.
-- Enumerations, each by its names: the values of `pagination`, `editortype` and `langid` and the codes of `gender`, as
-- the Rust crate `biblatex` lists them. Only a language is parsed in the exact case of its name.
use Rattle.std.specs.Prelude.{ℕ, ⊤, List, [], ◌∷◌, Option, codes}
use Rattle.bib_chunks.specs.declared.chunk.Chunk.TheVariants.{Normal, Verbatim}
use Rattle.bib_text.specs.Enums.{value_named, by_name}
use Rattle.bib_tables.specs.declared.types.Pagination.{Pagination}
use Rattle.bib_tables.specs.declared.types.Gender.{Gender}
use Rattle.bib_tables.specs.declared.types.Gender.TheVariants.{SingularFemale, SingularMale, SingularNeuter, PluralFemale, PluralMale, PluralNeuter}
use Rattle.bib_tables.specs.declared.types.EditorType.{EditorType}
use Rattle.bib_tables.specs.declared.types.EditorType.TheVariants.{Unknown}
use Rattle.bib_tables.specs.declared.types.lang.Language.{Language}
use Rattle.bib_tables.specs.Pagination.{pagination_name, pagination_named}
use Rattle.bib_tables.specs.EditorType.{editor_type_name, editor_type_of}
use Rattle.bib_tables.specs.Language.{language_row, language_named}
use Rattle.bib_chunks.specs.Values.{Value, text, lowercase_text, alone}

-- the scheme whose name is the text of the chunks, in any ASCII case
unfoldable pub pagination_read : Value → Option Pagination
pagination_read chunks = pagination_named (lowercase_text chunks)

-- how a scheme is written: its name, as one normal chunk
abbrev pub pagination_written : Pagination → Value
pagination_written scheme = alone (Normal (pagination_name scheme))

-- the code of a gender in a file: singular or plural; feminine, masculine or neuter
abbrev pub gender_code : Gender → List ℕ
gender_code SingularFemale = codes "sf"
gender_code SingularMale = codes "sm"
gender_code SingularNeuter = codes "sn"
gender_code PluralFemale = codes "pf"
gender_code PluralMale = codes "pm"
gender_code PluralNeuter = codes "pn"

-- the genders and their codes
abbrev pub genders : List (List ℕ × Gender)
genders = by_name gender_code (SingularFemale ∷ SingularMale ∷ SingularNeuter ∷ PluralFemale ∷ PluralMale ∷ PluralNeuter ∷ [])

-- the gender with this code
abbrev pub gender_coded : List ℕ → Option Gender
gender_coded = value_named genders

-- the gender whose code is the text of the chunks, in any ASCII case
unfoldable pub gender_read : Value → Option Gender
gender_read chunks = gender_coded (lowercase_text chunks)

-- how a gender is written: its code, as one normal chunk
abbrev pub gender_written : Gender → Value
gender_written gender = alone (Normal (gender_code gender))

-- the editor type whose name is the text of the chunks, in any ASCII case. Any other text, with `A` to `Z` in lower case, is
-- an unknown type
unfoldable pub editor_type_read : Value → EditorType
editor_type_read chunks = editor_type_of (lowercase_text chunks)

-- how an editor type is written: its name, or the text of an unknown one, as one normal chunk
abbrev pub editor_type_written : EditorType → Value
editor_type_written role = alone (Normal (editor_type_name role))

-- an editor type that isn't an unknown one
abbrev pub IsNamed : EditorType → Type 0
IsNamed (Unknown text) = ⊥
IsNamed role = ⊤

-- the language that has the text of the chunks as one of its names, in the same case
unfoldable pub language_read : Value → Option Language
language_read chunks = language_named (text chunks)

-- how a language is written: its display name, as one verbatim chunk
abbrev pub language_written : Language → Value
language_written language = alone (Verbatim (language_row language).name)
