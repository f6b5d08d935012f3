-- Meaning: words of public contracts.
-- The parts of JSON values. A text is a list of its bytes.
use Rattle.std.specs.Prelude.{ℕ, ℤ, Bool, if◌then◌else◌, List, [], ◌∷◌, length, Option, option_and_then, option_map}
use Rattle.std.specs.Option.{option_map_or, option_or}
use Rattle.json.specs.Json.{Json, Items, no_items, item, Members, no_members, member}
use Rattle.json.specs.Find.{as_array, as_object, as_str, as_number, get}
use Rattle.bib_values.specs.Numbers.{decimal_of}

-- the elements of an array as a list
abbrev pub listed_items : Items → List Json
listed_items no_items = []
listed_items (item j js) = j ∷ listed_items js

-- the members in order, each with its name
abbrev pub listed_members : Members → List (List ℕ × Json)
listed_members no_members = []
listed_members (member name j ms) = (name, j) ∷ listed_members ms

-- the elements of an array
abbrev pub array_elements : Json → Option (List Json)
array_elements j = option_map listed_items (as_array j)

-- the members of an object
abbrev pub object_members : Json → Option (List (List ℕ × Json))
object_members j = option_map listed_members (as_object j)

-- the number of members of an object; 0 for another value
abbrev pub object_size : Json → ℕ
object_size j = option_map_or length (object_members j) 0

-- a text, or a number as it is written
abbrev pub text_in : Json → Option (List ℕ)
text_in j = option_or (as_str j) (as_number j)

-- the text of the member with a name
abbrev pub string_under : List ℕ → Json → Option (List ℕ)
string_under name j = option_and_then as_str (get name j)

-- the text of the member with a name, or its number as it is written
abbrev pub text_under : List ℕ → Json → Option (List ℕ)
text_under name j = option_and_then text_in (get name j)

-- the integer that a number or a text has in decimal digits, maybe with a sign before them; `None` if there is no such integer, or if it is
-- no `i64`
abbrev pub whole_number : Json → Option ℤ
whole_number j = option_and_then decimal_of (text_in j)

-- 1 for true and 0 for false
abbrev pub one_if : Bool → ℕ
one_if is_there = if is_there then 1 else 0
