-- Meaning: words of public contracts.
-- An entry as it is parsed from its JSON.
use Rattle.std.specs.Prelude.{ℕ, List, map}
use Rattle.std.specs.FinMap.{entries}
use Rattle.bib_chunks.specs.Values.{Value, nowhere}
use Rattle.bib_entry.specs.declared.entry.Entry.{Entry}
use Rattle.bib_json.specs.Entries.{type_text}
use Rattle.bib_from_json.specs.declared.given.GivenEntry.{GivenEntry}
use Rattle.bib_from_json.specs.declared.given.GivenField.{GivenField}

-- the chunks of a value with detached spans
abbrev pub detached : Value → Value
detached = map (λ c. nowhere c.v)

-- a field with the same name, and the same chunks except for their spans
abbrev pub given_field : List ℕ × Value → GivenField
given_field field = record { name = field.0; chunks = detached field.1 }

-- an entry with the same type and key, and the same fields except for the spans of chunks
abbrev pub given_entry : Entry → GivenEntry
given_entry entry = record { kind = type_text entry.entry_type; key = entry.key; fields = map given_field (entries entry.fields) }
