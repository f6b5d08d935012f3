-- Meaning: words of public contracts.
-- The parts of a unit that are compared one by one: its only block, if that is an entry or has definitions of abbreviations.
use Rattle.std.specs.Prelude.{ℕ, List, [], ◌∷◌, ◌++◌, Option, Some, None, filter}
use Rattle.std.specs.declared.ops.Range.{Range}
use Rattle.bib_syntax.specs.Reading.{EntryReading, FieldReading, FileReading}
use Rattle.edit_units.specs.Units.{UnitReading}
use Rattle.edit_versions.specs.Alike.{is_no_layout, outside_fields}

-- A block: the type of an entry, or an empty text for definitions; the offsets at which the type and the key begin and end; and the fields
-- of the entry, or the definitions. Definitions have no key, and the type of their block reaches from its at sign to their first name.
pub record BlockReading : Type 0 where
  pub kind : List ℕ
  pub kind_start : ℕ
  pub kind_end : ℕ
  pub key_start : ℕ
  pub key_end : ℕ
  pub fields : List FieldReading

-- the block of an entry
abbrev pub entry_block : EntryReading → BlockReading
entry_block e = record {
  kind = e.kind.text;
  kind_start = e.kind.start;
  kind_end = e.kind.end;
  key_start = e.key.start;
  key_end = e.key.end;
  fields = e.fields;
}

-- the block of definitions that begins at an offset, if there are some
abbrev pub definition_block : ℕ → List FieldReading → Option BlockReading
definition_block start [] = None
definition_block start (f ∷ fs) =
    Some
    (record {
      kind = [];
      kind_start = start;
      kind_end = f.name.start;
      key_start = f.name.start;
      key_end = f.name.start;
      fields = f ∷ fs;
    })

-- the block of entries, if there is one entry, or of definitions that begin at an offset, if there is none
abbrev pub block_by : ℕ → List EntryReading → List FieldReading → Option BlockReading
block_by start [] definitions = definition_block start definitions
block_by start (e ∷ []) definitions = Some (entry_block e)
block_by start (e ∷ other ∷ es) definitions = None

-- the block of a unit with these spans of blocks and this content, if it has one block
abbrev pub single_block : List (Range ℕ) → FileReading → Option BlockReading
single_block [] says = None
single_block (span ∷ []) says = block_by span.start says.entries says.abbreviations
single_block (span ∷ other ∷ spans) says = None

-- the only block of a unit, if it is an entry or has definitions
abbrev pub block_of : UnitReading → Option BlockReading
block_of u = single_block u.blocks u.says

-- the fields of a block, or none
abbrev pub block_fields : Option BlockReading → List FieldReading
block_fields None = []
block_fields (Some b) = b.fields

-- the fields of a unit by whose indices changes name them: those of its only entry, or its definitions
abbrev pub unit_fields : UnitReading → List FieldReading
unit_fields u = block_fields (block_of u)

-- the bytes from an offset to another one, outside of these fields, without white space and commas
abbrev pub bytes_outside : List ℕ → ℕ → List FieldReading → ℕ → List ℕ
bytes_outside text at fields end = filter is_no_layout (outside_fields text at fields end)

-- the bytes of a unit outside of the type, the key and the fields of its block, without white space and commas: comments and braces
abbrev pub text_outside : List ℕ → UnitReading → BlockReading → List ℕ
text_outside text u b =
    bytes_outside text u.start [] b.kind_start ++ bytes_outside text b.kind_end [] b.key_start
    ++ bytes_outside text b.key_end b.fields u.end
