-- Meaning: words of public contracts.
-- Entries of a bibliography that are the same as those of the JSON.
use Rattle.std.specs.Prelude.{◌≡◌, List, length, Some, option_map}
use Rattle.std.specs.FinMap as by_name
use Rattle.std.specs.List.{AllByRecursion, AllZip}
use Rattle.bib_chunks.specs.Styled.{styled}
use Rattle.bib_chunks.specs.Values.{Value}
use Rattle.bib_collections.specs.Sorted.{ByText}
use Rattle.bib_entry.specs.declared.entry.Entry.{Entry}
use Rattle.bib_json.specs.Entries.{type_text}
use Rattle.bib_tables.specs.EntryType.{entry_type_of}
use Rattle.bib_from_json.specs.declared.given.GivenEntry.{GivenEntry}
use Rattle.bib_from_json.specs.declared.given.GivenField.{GivenField}

-- an entry has a field with this name and the same styled text
abbrev pub IsSameField : ByText Value → GivenField → Type 0
IsSameField fields field = option_map styled (by_name.get fields field.name) ≡ Some (styled field.chunks)

-- an entry has these fields, and no others. No two of the given fields have one name, so their number is that of their names
pub record AreSameFields (given : List GivenField) (fields : ByText Value) : Type 0 where
  pub each : AllByRecursion (IsSameField fields) given
  pub count : by_name.len fields ≡ length given

-- an entry has the key, the type and the fields of the given one
pub record IsSameEntry (given : GivenEntry) (entry : Entry) : Type 0 where
  pub key : entry.key ≡ given.key
  pub entry_type : type_text entry.entry_type ≡ type_text (entry_type_of given.kind)
  pub fields : AreSameFields given.fields entry.fields

-- the entries are the given ones, in their order
abbrev pub AreSameEntries : List GivenEntry → List Entry → Type 0
AreSameEntries = AllZip IsSameEntry
