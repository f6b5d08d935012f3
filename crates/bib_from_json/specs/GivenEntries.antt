-- Meaning: words of public contracts.
-- The entries in a text of JSON, or the first fault. docs/entries.schema.json describes the JSON.
use Rattle.std.specs.Prelude.{ℕ, ◌+◌, Bool, ◌==◌, if◌then◌else◌, List, [], ◌∷◌, length, map, reverse, codes, is_some, Option, Some, None, option_and_then, Result, Ok, Err}
use Rattle.std.specs.FinMap.{from_entries, len}
use Rattle.std.specs.Option.{option_map_or}
use Rattle.json.specs.Find.{get}
use Rattle.json.specs.Json.{Json, document}
use Rattle.bib_chunks.specs.Values.{Value}
use Rattle.bib_collections.specs.Sorted.{ByText}
use Rattle.bib_from_csl.specs.Objects.{array_elements, object_members, object_size, string_under}
use Rattle.bib_from_json.specs.GivenChunks.{field_chunks, one_under}
use Rattle.bib_from_json.specs.declared.given.GivenEntry.{GivenEntry}
use Rattle.bib_from_json.specs.declared.given.GivenField.{GivenField}
use Rattle.bib_from_json.specs.declared.reading.Fault.{Fault}
use Rattle.bib_from_json.specs.declared.reading.Fault.TheVariants.{NotJson, NotEntries, NotAnObject, NoKey, NoType, NoFields, EntryMember, FieldTwice}
use Rattle.bib_from_json.specs.declared.reading.UnfitEntry.{UnfitEntry}

-- a fault of the entry with this key that isn't in a single field
abbrev pub unfit_whole : Fault → List ℕ → UnfitEntry
unfit_whole fault key = record { fault = fault; key = key; field = [] }

-- a fault in a field of the entry with this key
abbrev pub unfit_in : Fault → List ℕ → List ℕ → UnfitEntry
unfit_in fault key field = record { fault = fault; key = key; field = field }

-- the fields of an entry, or the first fault
abbrev pub GivenFields : Type 0
GivenFields = Result (List GivenField) UnfitEntry

-- the field `name` of the entry `key` before others; the first fault counts
abbrev pub before_given_fields : List ℕ → List ℕ → Result Value Fault → GivenFields → GivenFields
before_given_fields key name (Err fault) rest = Err (unfit_in fault key name)
before_given_fields key name (Ok chunks) (Err unfit) = Err unfit
before_given_fields key name (Ok chunks) (Ok fields) = Ok (record { name = name; chunks = chunks } ∷ fields)

-- the fields of the entry `key`, in the order of the members, or the first fault
abbrev pub fields_from : List ℕ → List (List ℕ × Json) → GivenFields
fields_from key [] = Ok []
fields_from key (m ∷ ms) = before_given_fields key m.0 (field_chunks m.1) (fields_from key ms)

-- the name of a field, paired with nothing
abbrev pub name_pair : GivenField → List ℕ × Unit {0}
name_pair field = (field.name, tt)

-- the names of fields as a set
abbrev pub name_set : List GivenField → ByText (Unit {0})
name_set fields = from_entries (reverse (map name_pair fields))

-- whether no two fields have one name: there are as many names as fields
abbrev pub are_distinct : List GivenField → Bool
are_distinct fields = len (name_set fields) == length fields

-- the entry with these fields, or the fault
abbrev pub entry_with : List ℕ → List ℕ → List GivenField → Result GivenEntry UnfitEntry
entry_with kind key fields =
    if are_distinct fields then Ok (record { kind = kind; key = key; fields = fields }) else Err (unfit_whole FieldTwice key)

-- the entry with these fields, unless there is a fault
abbrev pub entry_unless : List ℕ → List ℕ → GivenFields → Result GivenEntry UnfitEntry
entry_unless kind key (Err unfit) = Err unfit
entry_unless kind key (Ok fields) = entry_with kind key fields

-- the entry with this `type`, this `key` and these members as its `fields`, or the fault; the flag says whether its members are those of an
-- entry
abbrev pub entry_with_parts : Bool → Option (List ℕ) → List ℕ → Option (List (List ℕ × Json)) → Result GivenEntry UnfitEntry
entry_with_parts is_whole None key fields = Err (unfit_whole NoType key)
entry_with_parts is_whole (Some kind) key None = Err (unfit_whole NoFields key)
entry_with_parts is_whole (Some kind) key (Some ms) =
    if is_whole then entry_unless kind key (fields_from key ms) else Err (unfit_whole EntryMember key)

-- whether an object with the members `type`, `key` and `fields` has no others, except `date`, and none of them twice
abbrev pub has_entry_members : Json → Bool
has_entry_members j = object_size j == 3 + one_under (codes "date") j

-- the entry of an object with this key, or the fault; the member `date` is ignored
abbrev pub entry_with_key : Json → List ℕ → Result GivenEntry UnfitEntry
entry_with_key j key =
    entry_with_parts (has_entry_members j) (string_under (codes "type") j) key (option_and_then object_members (get (codes "fields") j))

-- the entry of a JSON value, or the fault
abbrev pub entry_of_element : Json → Result GivenEntry UnfitEntry
entry_of_element j =
    if is_some (object_members j) then option_map_or (entry_with_key j) (string_under (codes "key") j) (Err (unfit_whole NoKey []))
    else Err (unfit_whole NotAnObject [])

-- entries, or the index of the first element at fault, with the fault
abbrev pub GivenEntries : Type 0
GivenEntries = Result (List GivenEntry) (ℕ × UnfitEntry)

-- an entry, by the index of its element, before others; the first fault counts
abbrev pub before_entries : ℕ → Result GivenEntry UnfitEntry → GivenEntries → GivenEntries
before_entries index (Err unfit) rest = Err (index, unfit)
before_entries index (Ok entry) (Err other) = Err other
before_entries index (Ok entry) (Ok entries) = Ok (entry ∷ entries)

-- the entries of these elements, or the index of the first one at fault, with the fault; the first element has this index
abbrev pub entries_of_elements : ℕ → List Json → GivenEntries
entries_of_elements index [] = Ok []
entries_of_elements index (j ∷ js) = before_entries index (entry_of_element j) (entries_of_elements (index + 1) js)

-- the entry of an object as the only one, or the fault
abbrev pub only_entry : Json → GivenEntries
only_entry j = if is_some (object_members j) then entries_of_elements 0 (j ∷ []) else Err (0, unfit_whole NotEntries [])

-- the entries of a JSON value: an array of entries, or one entry; or the index of the first element at fault, with the fault
abbrev pub entries_in : Json → GivenEntries
entries_in j = option_map_or (entries_of_elements 0) (array_elements j) (only_entry j)

-- the fault of a text that isn't JSON
abbrev pub no_json : ℕ × UnfitEntry
no_json = (0, unfit_whole NotJson [])

-- the entries in a text of JSON, or the index of the first element at fault, with the fault
unfoldable pub entries_read : List ℕ → GivenEntries
entries_read text = option_map_or entries_in (document text) (Err no_json)
