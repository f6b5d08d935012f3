-- Meaning: words of public contracts.
-- Entries of a bibliography in JSON.
use Rattle.std.specs.Prelude.{◌≡◌, ℕ, List, [], ◌∷◌, codes, Option, Some, option_and_then, option_map}
use Rattle.std.specs.Option.{option_map_or}
use Rattle.bib_dates.specs.Chunks.{date_read}
use Rattle.bib_dates.specs.Readings.{readable_value}
use Rattle.bib_dates.specs.declared.date.Date.{Date}
use Rattle.bib_entry.specs.DateFields.{date_part, three_parts}
use Rattle.bib_entry.specs.declared.entry.Entry.{Entry}
use Rattle.bib_tables.specs.EntryType.{entry_type_name}
use Rattle.bib_tables.specs.declared.mechanics.EntryType.{EntryType}
use Rattle.bib_tables.specs.declared.mechanics.EntryType.TheVariants.{Unknown}
use Rattle.serde_json.specs.Data.{Data, string}
use Rattle.json.specs.Lex.{tokens}
use Rattle.json.specs.Tree.{json_tokens}
use Rattle.serde_json.specs.Read.{read}
use Rattle.serde_json.specs.Written.{compact_text, outline}
use Rattle.bib_json.specs.Dates.{date_json}
use Rattle.bib_json.specs.Fields.{fields_json}
use Rattle.bib_json.specs.Objects.{Member, object_of}

-- the name of an entry type; for an unknown type, its name in the source, with ASCII letters in lowercase
abbrev pub type_text : EntryType → List ℕ
type_text (Unknown name) = name
type_text type = entry_type_name type

-- the date in the fields `year`, `month` and `day` of an entry; `None` if it has no `year` or they can't be parsed
abbrev pub date_in_parts : Entry → Option Date
date_in_parts entry = option_and_then (λ year. readable_value (three_parts [] entry year)) (date_part [] entry (codes "year"))

-- the date of an entry: that in the field `date`, or else in `year`, `month` and `day`; `None` if there is none or it can't be parsed
abbrev pub entry_date : Entry → Option Date
entry_date entry = option_map_or date_read (date_part [] entry (codes "date")) (date_in_parts entry)

-- an entry: its type, its key, its fields and its date, if it has one
abbrev pub entry_members : Entry → List Member
entry_members entry =
    (codes "type", Some (string (type_text entry.entry_type)))
    ∷ (codes "key", Some (string entry.key))
    ∷ (codes "fields", Some (fields_json entry.fields))
    ∷ (codes "date", option_map date_json (entry_date entry))
    ∷ []

-- the object of an entry
abbrev pub entry_object : Entry → Data
entry_object entry = object_of (entry_members entry)

-- the text of an entry in JSON, on one line
abbrev pub json_text_of : Entry → List ℕ
json_text_of entry = compact_text (entry_object entry)

-- the text of an entry has the tokens of its object, and is parsed as that object
pub record IsReadBack (entry : Entry) : Type 0 where
  pub same_tokens : tokens (json_text_of entry) ≡ json_tokens (outline (entry_object entry))
  pub value : read (json_text_of entry) ≡ Some (entry_object entry)
