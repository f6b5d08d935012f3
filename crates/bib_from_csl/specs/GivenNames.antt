-- Meaning: words of public contracts.
-- The names of items of CSL-JSON.
use Rattle.std.specs.Prelude.{ℕ, ◌+◌, Bool, true, false, ◌==◌, if◌then◌else◌, List, [], map, codes, Option, Some, None, is_some, unwrap_or}
use Rattle.std.specs.List.{list_all}
use Rattle.std.specs.Option.{option_map_or}
use Rattle.json.specs.Json.{Json}
use Rattle.bib_csl.specs.declared.item.Name.{Name}
use Rattle.bib_csl.specs.declared.item.Name.TheVariants.{Literal, Parts}
use Rattle.bib_csl.specs.declared.item.NameParts.{NameParts}
use Rattle.bib_from_csl.specs.Objects.{array_elements, object_members, one_if, object_size, string_under}

-- the text of a member, or nothing if it is missing or no text
abbrev pub name_part : List ℕ → Json → List ℕ
name_part name person = unwrap_or (string_under name person) []

-- the parts of a name
unfoldable pub given_parts : Json → NameParts
given_parts person = record {
  family = name_part (codes "family") person;
  given = name_part (codes "given") person;
  suffix = name_part (codes "suffix") person;
  dropping_particle = name_part (codes "dropping-particle") person;
  non_dropping_particle = name_part (codes "non-dropping-particle") person;
}

-- a name that is one text, or else has parts
abbrev pub literal_or_parts : Option (List ℕ) → Json → Name
literal_or_parts None person = Parts (given_parts person)
literal_or_parts (Some text) person = Literal text

-- the name of an object
unfoldable pub given_name : Json → Name
given_name person = literal_or_parts (string_under (codes "literal") person) person

-- 1 if an object has a text as its member of this name, and 0 otherwise
abbrev pub count : List ℕ → Json → ℕ
count name person = one_if (is_some (string_under name person))

-- the number of members of an object that its name is made of
unfoldable pub said_parts : Json → ℕ
said_parts person =
    if is_some (string_under (codes "literal") person) then 1
    else count (codes "family") person + count (codes "given") person + count (codes "suffix") person
    + count (codes "dropping-particle") person + count (codes "non-dropping-particle") person

-- whether an object has no members except those that its name is made of
abbrev pub says_name_only : Json → Bool
says_name_only person = object_size person == said_parts person

-- whether a value is an object
abbrev pub is_object : Json → Bool
is_object j = is_some (object_members j)

-- whether a value is an array of objects
abbrev pub are_objects : Json → Bool
are_objects j = option_map_or (list_all is_object) (array_elements j) false

-- the names of an array of objects
unfoldable pub given_names : Json → List Name
given_names j = option_map_or (map given_name) (array_elements j) []

-- whether each object of an array has no members except those that its name is made of
unfoldable pub are_whole_names : Json → Bool
are_whole_names j = option_map_or (list_all says_name_only) (array_elements j) true
