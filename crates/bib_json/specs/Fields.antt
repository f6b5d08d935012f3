-- Meaning: words of public contracts.
-- Fields in JSON.
use Rattle.std.specs.Prelude.{ℕ, List, [], ◌∷◌, map, codes, Some}
use Rattle.std.specs.FinMap.{entries}
use Rattle.bib_chunks.specs.Values.{Value}
use Rattle.bib_collections.specs.Sorted.{ByText}
use Rattle.serde_json.specs.Data.{Data}
use Rattle.bib_json.specs.Chunks.{chunks_json}
use Rattle.bib_json.specs.Objects.{Member, object_of}
use Rattle.bib_json.specs.Values.{value_json}

-- a field of this name: its chunks and its parsed value, if it has one
abbrev pub field_members : List ℕ → Value → List Member
field_members name chunks =
    (codes "chunks", Some (chunks_json chunks)) ∷ (codes "value", value_json name chunks) ∷ []

-- the object of a field
abbrev pub field_json : List ℕ → Value → Data
field_json name chunks = object_of (field_members name chunks)

-- a field as a member of the object of all fields
abbrev pub field_member : List ℕ × Value → Member
field_member field = (field.0, Some (field_json field.0 field.1))

-- fields by their names
abbrev pub fields_json : ByText Value → Data
fields_json fields = object_of (map field_member (entries fields))
