-- Meaning: words of public contracts.
-- Replacements of the values of fields, as changes of entries.
use Rattle.std.specs.Prelude.{map, Option, Some, None}
use Rattle.bib_syntax.specs.Reading.{FieldReading, EntryReading}
use Rattle.edit_entries.specs.Changes.{EntryChange, FieldChange, NewValue}

-- the new value of each field whose value is replaced
abbrev pub Exchange : Type 0
Exchange = FieldReading → Option NewValue

-- the change of a field, given its new value if it has one
abbrev pub exchange_change : Option NewValue → FieldChange
exchange_change None = FieldChange.kept
exchange_change (Some new) = FieldChange.valued new

-- the change of an entry whose values are replaced
abbrev pub exchanges : Exchange → EntryReading → EntryChange
exchanges exchange e = record { kind = None; fields = map (λ f. exchange_change (exchange f)) e.fields }
