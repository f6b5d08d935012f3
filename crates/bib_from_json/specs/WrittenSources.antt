-- Meaning: words of public contracts.
-- The source of entries, with their fields in the order of the JSON.
use Rattle.std.specs.Prelude.{ℕ, Bool, true, false, if◌then◌else◌, List, [], ◌∷◌, ◌++◌, codes}
use Rattle.std.specs.List.{flat_map}
use Rattle.bib_entry.specs.WrittenEntries.{value_bytes}
use Rattle.bib_from_json.specs.declared.given.GivenEntry.{GivenEntry}
use Rattle.bib_from_json.specs.declared.given.GivenField.{GivenField}

-- the line of a field
unfoldable pub field_source : GivenField → List ℕ
field_source field = codes "  " ++ (field.name ++ (codes " = " ++ (value_bytes field.name field.chunks ++ codes ",\n")))

-- the start of an entry, up to the line end after its key
unfoldable pub source_head : GivenEntry → List ℕ
source_head entry = codes "@" ++ (entry.kind ++ (codes "{" ++ (entry.key ++ codes ",\n")))

-- an entry
unfoldable pub entry_source : GivenEntry → List ℕ
entry_source entry = source_head entry ++ (flat_map field_source entry.fields ++ codes "}\n")

-- an entry, after an empty line unless it is the first
abbrev pub next_source : Bool → GivenEntry → List ℕ
next_source first entry = if first then entry_source entry else codes "\n" ++ entry_source entry

-- entries, with an empty line before each; if the flag is true, the first one has none before it
abbrev pub sources_from : Bool → List GivenEntry → List ℕ
sources_from first [] = []
sources_from first (entry ∷ entries) = next_source first entry ++ sources_from false entries

-- entries, with an empty line between two
abbrev pub entries_source : List GivenEntry → List ℕ
entries_source = sources_from true
