-- Meaning: words of public contracts.
-- The family names in a key.
use Rattle.std.specs.Prelude.{ℕ, false, if◌then◌else◌, List, [], ◌∷◌, ◌++◌, length, map, take, nat_lt, codes, bytes_eq, Option, Some, None}
use Rattle.bib_chunks.specs.Values.{Value}
use Rattle.bib_people.specs.People.{people_of}
use Rattle.bib_people.specs.declared.person.Person.{Person}
use Rattle.bib_keys.specs.Commands.{without_names}
use Rattle.bib_keys.specs.Letters.{key_letters}

-- the words for the people that aren't named
abbrev pub others : List ℕ
others = codes "EtAl"

-- the family name of a person as plain text, without the names of commands that don't count as text; `others` in a list of authors means
-- the authors that aren't named
abbrev pub shown_family_name : Person → List ℕ
shown_family_name p = if bytes_eq p.name (codes "others") then others else key_letters (without_names false p.name)

-- the names in a key. Without a number, this is only the first name. With a number `n`, these are the first `n` names, and then `others` if
-- there are more.
abbrev pub shown_names : Option ℕ → List (List ℕ) → List (List ℕ)
shown_names None names = take 1 names
shown_names (Some n) names = take n names ++ (if nat_lt n (length names) then others ∷ [] else [])

-- the names in a key for the people in a field
abbrev pub names_in_key : Option ℕ → Value → List (List ℕ)
names_in_key count people = shown_names count (map shown_family_name (people_of people))
