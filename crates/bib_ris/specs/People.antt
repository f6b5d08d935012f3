-- Meaning: words of public contracts.
-- Lines of people.
use Rattle.std.specs.Prelude.{ℕ, Bool, ◌==◌, ◌&&◌, ◌||◌, if◌then◌else◌, List, [], ◌++◌, length, codes, bytes_eq, Option, Some, None}
use Rattle.std.specs.List.{flat_map, list_any}
use Rattle.std.specs.Str.{chars}
use Rattle.bib_chunks.specs.Values.{Value}
use Rattle.bib_csl.specs.Markup.{loosened}
use Rattle.bib_people.specs.People.{people_of}
use Rattle.bib_people.specs.declared.person.Person.{Person}
use Rattle.bib_text.specs.Characters as char
use Rattle.bib_ris.specs.Lines.{ris_line}

-- a family name after its prefix
abbrev pub family_name : Person → List ℕ
family_name p = if length p.prefix == 0 then p.name else p.prefix ++ (codes " " ++ p.name)

-- whether a person has only a family name, maybe with a prefix
abbrev pub is_family_alone : Person → Bool
is_family_alone p = (length p.given_name == 0) && (length p.suffix == 0)

-- whether a text contains a byte
abbrev pub contains_byte : ℕ → List ℕ → Bool
contains_byte byte text = list_any (λ b. b == byte) text

-- a comma for a name that contains a space or a tilde, such as that of an institution: without a comma, RIS readers parse its words as
-- given names and a family name
abbrev pub comma_alone : List ℕ → List ℕ
comma_alone name = if contains_byte char.space name || contains_byte char.tilde name then codes "," else []

-- a comma and the given name; without a given name and without a suffix, only the comma of `comma_alone`
abbrev pub given_part : Person → List ℕ
given_part p = if is_family_alone p then comma_alone (family_name p) else codes ", " ++ p.given_name

-- a comma and the suffix, if there is one
abbrev pub suffix_part : Person → List ℕ
suffix_part p = if length p.suffix == 0 then [] else codes ", " ++ p.suffix

-- the name of a person, with spaces for tildes
abbrev pub person_text : Person → List ℕ
person_text p = loosened (chars (family_name p ++ (given_part p ++ suffix_part p)))

-- whether a person is the word `others`, which means people who aren't named
abbrev pub is_others : Person → Bool
is_others p = bytes_eq (person_text p) (codes "others")

-- a line for a person, unless the person is the word `others`
abbrev pub person_line : List ℕ → Person → List ℕ
person_line tag p = if is_others p then [] else ris_line tag (person_text p)

-- a line for each person except the word `others`
abbrev pub person_lines : List ℕ → List Person → List ℕ
person_lines tag people = flat_map (person_line tag) people

-- a line for each person of a field except the word `others`
abbrev pub people_lines : List ℕ → Option Value → List ℕ
people_lines tag None = []
people_lines tag (Some chunks) = person_lines tag (people_of chunks)
