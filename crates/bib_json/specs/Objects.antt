-- Meaning: words of public contracts.
-- Objects and arrays of JSON.
use Rattle.std.specs.Prelude.{ℕ, List, [], ◌∷◌, map, Option, Some, None}
use Rattle.serde_json.specs.Data.{Data, array, object, Members, no_members, put}
use Rattle.serde_json.specs.View.{items_of}

-- a member of an object: its name, and its value if it has one
abbrev pub Member : Type 0
Member = List ℕ × Option Data

-- members, and one more with this name and a value, if there is a value
abbrev pub with_given : List ℕ → Option Data → Members → Members
with_given name None members = members
with_given name (Some value) members = put name value members

-- members, and those of a list that have a value
abbrev pub with_members : Members → List Member → Members
with_members members [] = members
with_members members (m ∷ rest) = with_members (with_given m.0 m.1 members) rest

-- the object of the members that have a value
abbrev pub object_of : List Member → Data
object_of members = object (with_members no_members members)

-- the array of the values of elements
abbrev pub array_of : {T : Type 0} → (T → Data) → List T → Data
array_of element elements = array (items_of (map element elements))
