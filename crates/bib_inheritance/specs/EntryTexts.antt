-- Meaning: words of public contracts.
-- The texts of an entry: its type, and the styled text of each of its fields.
use Rattle.std.specs.Prelude.{ℕ, Bool, List, is_some, map, option_map, Option, Some, None}
use Rattle.std.specs.FinMap as by_name
use Rattle.std.specs.FinMap.{find}
use Rattle.bib_text.specs.declared.spanned.Spanned.{Spanned}
use Rattle.bib_chunks.specs.declared.chunk.Chunk.{Chunk}
use Rattle.bib_chunks.specs.Styled.{Atom, styled}
use Rattle.bib_collections.specs.Sorted.{ByText, by_bytes}
use Rattle.bib_tables.specs.declared.mechanics.EntryType.{EntryType}
use Rattle.bib_tables.specs.declared.mechanics.EntryType.TheVariants.{Misc}
use Rattle.bib_inheritance.specs.declared.offers.Reference.{Reference}

-- the styled text of each field, by name
abbrev pub FieldTexts : Type 0
FieldTexts = List ℕ → Option (List Atom)

-- the type and the fields of an entry
pub record EntryTexts : Type 0 where
  pub entry_type : EntryType
  pub fields : FieldTexts

-- the texts at an index that has no entry
abbrev pub no_entry : EntryTexts
no_entry = record { entry_type = Misc; fields = λ name. None }

-- the styled texts of the fields in a map
abbrev pub fields_of : ByText (List (Spanned Chunk)) → FieldTexts
fields_of fields name = option_map styled (by_name.get fields name)

-- the texts of an entry of a type with the fields in a map
abbrev pub texts_of_fields : EntryType → ByText (List (Spanned Chunk)) → EntryTexts
texts_of_fields entry_type fields = record { entry_type = entry_type; fields = fields_of fields }

-- whether an entry has a field of this name
abbrev pub has : EntryTexts → List ℕ → Bool
has texts name = is_some (texts.fields name)

-- the first of two optional values that exists
abbrev pub first_some : {A : Type 0} → Option A → Option A → Option A
first_some (Some a) other = Some a
first_some None other = other

-- the texts of an entry that another entry refers to
abbrev pub texts_of_reference : Reference → EntryTexts
texts_of_reference reference = texts_of_fields reference.entry_type.now reference.fields.now

-- the texts of the references of an entry, in order
abbrev pub texts_of_references : List Reference → List EntryTexts
texts_of_references = map texts_of_reference

-- the first field of a name in a list
abbrev pub first_named : List (List ℕ × List (Spanned Chunk)) → List ℕ → Option (List (Spanned Chunk))
first_named pairs name = find by_bytes name pairs
