-- Meaning: words of public contracts.
-- Lists of people, as they are parsed and written.
use Rattle.std.specs.Prelude.{ℕ, ◌==◌, ◌||◌, Bool, true, false, if◌then◌else◌, List, [], ◌∷◌, ◌++◌, length, map, codes, Option, Some, None, is_some}
use Rattle.std.specs.Str.{chars}
use Rattle.unicode.specs.Binary.{is_uppercase}
use Rattle.bib_chunks.specs.declared.chunk.Chunk.TheVariants.{Normal, Verbatim}
use Rattle.bib_chunks.specs.Cuts.{and_list}
use Rattle.bib_chunks.specs.Values.{Value, nowhere}
use Rattle.bib_people.specs.declared.person.Person.{Person}
use Rattle.bib_people.specs.Names.{person_of}

-- the people in an `and` list, one for each part of it
abbrev pub people_of : Value → List Person
people_of chunks = map person_of (and_list chunks)

-- ---- a person with only the four parts of BibTeX

-- a suffix and a comma after it; nothing if the suffix is empty
abbrev pub suffix_text : List ℕ → List ℕ
suffix_text suffix = if length suffix == 0 then [] else suffix ++ codes ", "

-- family name, suffix and given name, with commas between them
abbrev pub after_prefix : Person → List ℕ
after_prefix p = p.name ++ (codes ", " ++ (suffix_text p.suffix ++ p.given_name))

-- whether characters begin with an uppercase letter
abbrev pub begins_capital : List ℕ → Bool
begins_capital [] = false
begins_capital (c ∷ cs) = is_uppercase c

-- the chunks of a person with only the four parts of BibTeX: one normal chunk, with a verbatim one before it for a
-- prefix that begins in upper case
abbrev pub plain_chunks : Person → Value
plain_chunks p =
    if length p.prefix == 0 then nowhere (Normal (after_prefix p)) ∷ []
    else if begins_capital (chars p.prefix) then nowhere (Verbatim p.prefix) ∷ nowhere (Normal (codes " " ++ after_prefix p)) ∷ []
    else nowhere (Normal (p.prefix ++ (codes " " ++ after_prefix p))) ∷ []

-- ---- a person in the extended format

-- a key and its value: a normal chunk and a verbatim one. `key` contains the equals sign, and the comma before any key
-- except the first.
unfoldable pub key_and_value : List ℕ → List ℕ → Value
key_and_value key value = nowhere (Normal key) ∷ nowhere (Verbatim value) ∷ []

-- a key and its value, if there is a value
abbrev pub key_if_some : List ℕ → Option (List ℕ) → Value
key_if_some key None = []
key_if_some key (Some value) = key_and_value key value

-- the text of a flag
abbrev pub flag_text : Bool → List ℕ
flag_text true = codes "true"
flag_text false = codes "false"

-- a key and its flag, if there is a flag
abbrev pub key_and_flag : List ℕ → Option Bool → Value
key_and_flag key None = []
key_and_flag key (Some flag) = key_and_value key (flag_text flag)

-- the four parts of a person with their keys
abbrev pub four_keys : Person → Value
four_keys p =
    key_and_value (codes "given=") p.given_name
    ++
    (key_and_value (codes ", family=") p.name
    ++ (key_and_value (codes ", prefix=") p.prefix ++ key_and_value (codes ", suffix=") p.suffix))

-- the optional parts of a person with their keys
abbrev pub more_keys : Person → Value
more_keys p =
    key_if_some (codes ", id=") p.id
    ++
    (key_if_some (codes ", prefix-i=") p.prefix_initials
    ++ (key_if_some (codes ", given-i=") p.given_initials ++ key_and_flag (codes ", useprefix=") p.use_prefix))

-- whether a person has one of the optional parts
abbrev pub has_more : Person → Bool
has_more p = is_some p.id || (is_some p.prefix_initials || (is_some p.given_initials || is_some p.use_prefix))

-- people

-- the chunks of a person, with keys if it has one of the optional parts
abbrev pub person_chunks : Person → Value
person_chunks p = if has_more p then four_keys p ++ more_keys p else plain_chunks p

-- the chunks of a person, after the word `and` unless it is the first
abbrev pub joined_person : Bool → Person → Value
joined_person first p = if first then person_chunks p else nowhere (Normal (codes " and ")) ∷ person_chunks p

-- the chunks of people; the flag says whether the first of them is the first of the list
abbrev pub people_from : Bool → List Person → Value
people_from first [] = []
people_from first (p ∷ people) = joined_person first p ++ people_from false people

-- people as an `and` list
abbrev pub people_chunks : List Person → Value
people_chunks = people_from true
