-- Machinery: words of private contracts.
-- The file, the parents, the gathered fields and the children, in the types of the code.
use Rattle.std.specs.Prelude.{◌≡◌, ℕ, String, ◌<◌, ◌≤◌, Bool, if◌then◌else◌, List, [], ◌∷◌, ◌++◌, length, map, slice_index_or, Option, Some, unwrap_or}
use Rattle.std.specs.BTreeMap.{BTreeMap, get_by_text}
use Rattle.std.specs.BTreeSet.{contains_text}
use Rattle.std.specs.Global.{Vec}
use Rattle.std.specs.List.{AllByRecursion, find, flat_map, list_any}
use Rattle.std.specs.Option.{option_map, option_or}
use Rattle.std.specs.Str.{IsCharBoundary}
use Rattle.bib_text.specs.Enums.{value_named}
use Rattle.bib_queries.specs.Needed.{is_listed}
use Rattle.bib_syntax.specs.Reading.{EntryReading, FieldReading}
use Rattle.bib_syntax.specs.Views.{entry_reading_of, field_of}
use Rattle.bib_tables.specs.EntryType.{entry_type_of}
use Rattle.bib_tables.specs.declared.mechanics.EntryType.{EntryType}
use Rattle.edit_entries.specs.Changes.{FieldChange}
use Rattle.edit_entries.specs.Cuts.{ArePiecesCut}
use Rattle.edit_entries.specs.Documents.{first_position, is_keyed}
use Rattle.edit_entries.specs.NewKeys.{index_for}
use Rattle.edit_entries.specs.Placed.{IsPlaced}
use Rattle.edit_entries.specs.References.{has_alias}
use Rattle.edit_resolve.specs.Inheritance.{read_name, rival_names}
use Rattle.edit_resolve.specs.Parents.{entry_at, type_of}
use Rattle.edit_resolve.specs.Resolved.{Named, fields_along, given_fields_by, in_place, is_read_as, last_change, new_fields, offers}
use Rattle.edit_resolve.specs.declared.file.File.{File}
use Rattle.edit_resolve.specs.declared.gathering.Named.{Named as NamedField}
use Rattle.edit_resolve.specs.declared.gathering.Gathered.{Gathered}
use Rattle.edit_resolve.specs.declared.parents.Parent.{Parent}
use Rattle.edit_resolve.specs.declared.uninherited.Child.{Child}

-- ---- the file

-- the readings of the entries of a file
abbrev pub readings : File → List EntryReading
readings file = map entry_reading_of file.entries.now

-- the names and the types of a file are those of its entries
pub record HasNames (file : File) : Type 0 where
  pub keys : (name : List ℕ) → index_for file.keys name ≡ first_position (is_keyed name) (readings file)
  pub aliases : (name : List ℕ) → index_for file.aliases name ≡ first_position (has_alias name) (readings file)
  pub types : file.types.items ≡ map type_of (readings file)

-- the parents in the vectors of the code
abbrev pub parent_lists : List (Vec Parent) → List (List Parent)
parent_lists rows = map (λ row. row.items) rows

-- ---- gathered fields

-- whether a name is in a set, or one that excludes it
abbrev pub is_ruled_out_in : (List ℕ → Bool) → List ℕ → Bool
is_ruled_out_in has name = list_any has (name ∷ unwrap_or (value_named rival_names name) [])

-- the field that a value of the code represents
abbrev pub named_of : NamedField → Named
named_of n = record { name = n.name.now; field = field_of n.field.now }

-- the taken names and the gathered fields are these
pub record IsGathered (taken : List (List ℕ)) (all : List Named) (g : Gathered) : Type 0 where
  pub names : (name : List ℕ) → contains_text g.names name ≡ is_listed taken name
  pub fields : map named_of g.fields.items ≡ all

-- the names under which Biber reads fields
abbrev pub read_names : List Named → List (List ℕ)
read_names fields = map (λ n. read_name n.name) fields

-- `new` has the fields of `old`, and then the new ones among the offered fields, and also their names
abbrev pub Offered : Gathered → List Named → Gathered → Type 0
Offered old offered new =
    (taken : List (List ℕ)) (fields : List Named) → IsGathered taken fields old
    → IsGathered (taken ++ read_names (new_fields taken offered)) (fields ++ new_fields taken offered) new

-- the fields at an index
abbrev pub fields_at : List (Vec NamedField) → ℕ → List Named
fields_at found index = slice_index_or (map (λ row. map named_of row.items) found) index []

-- the given field that a map has for a name
abbrev pub given_at : {A : Type 0} → BTreeMap (String A) NamedField → List ℕ → Option Named
given_at given name = option_map named_of (get_by_text given name)

-- the first map becomes the second one by adding, for each name that it doesn't have, the first of these fields with the name
abbrev pub Gives : {A : Type 0} → BTreeMap (String A) NamedField → List Named → BTreeMap (String A) NamedField → Type 0
Gives old fields new = (name : List ℕ) → given_at new name ≡ option_or (given_at old name) (find (is_read_as name) fields)

-- the field that a map has instead of an own field
abbrev pub instead_at : {A : Type 0} → BTreeMap (String A) NamedField → FieldReading → Option Named
instead_at given f = given_at given (read_name f.name.text)

-- the type at an index
abbrev pub type_at : List EntryType → ℕ → EntryType
type_at types index = slice_index_or types index (entry_type_of [])

-- the fields that an entry of a type is offered by these parents
abbrev pub offered_at : List EntryType → EntryType → (ℕ → List Named) → List Parent → List Named
offered_at types child fields parents = flat_map (λ p. offers p.link (type_at types p.index) child (fields p.index)) parents

-- the fields of the entry at an index, or those that take their places, and those that it inherits from these parents
abbrev pub with_inherited : List EntryReading → (ℕ → List Named) → List Parent → ℕ → List Named
with_inherited entries fields parents index =
    let e = entry_at entries index in
    map (in_place (given_fields_by fields parents)) e.fields
    ++ new_fields (map (λ f. read_name f.name.text) e.fields)
    (flat_map (λ p. offers p.link (type_of (entry_at entries p.index)) (type_of e) (fields p.index)) parents)

-- these are the fields of each entry, along any number of references one after another that is at least the number of entries
abbrev pub AreAlong : List EntryReading → (ℕ → List Named) → Type 0
AreAlong entries fields =
    (index most : ℕ) → index < length entries → length entries ≤ most → fields index ≡ fields_along entries most index

-- ---- edits

-- the value of a field may be cut out of a text, which may also be cut where the field's name begins
pub record IsNamedCut (text : List ℕ) (f : FieldReading) : Type 0 where
  pub placed : IsPlaced text f
  pub name : IsCharBoundary text f.name.start

-- each field of the entries meets `IsNamedCut`, and the text may be cut where the literals of its value begin
abbrev pub AreFieldsCut : List ℕ → List EntryReading → Type 0
AreFieldsCut text entries = AllByRecursion (λ e. AllByRecursion (λ f. IsNamedCut text f × ArePiecesCut text f) e.fields) entries

-- a text may be cut where the literals of the fields in a map begin
abbrev pub AreGivenCut : {A : Type 0} → List ℕ → BTreeMap (String A) NamedField → Type 0
AreGivenCut text given = (name : List ℕ) (n : Named) → given_at given name ≡ Some n → ArePiecesCut text n.field

-- the change of a resolved reference
abbrev pub last_or_removed : List ℕ → Bool → List Named → FieldReading → List FieldReading → FieldChange
last_or_removed text is_last new f following = if is_last then last_change text new f following else FieldChange.removed

-- ---- children

-- the type of a child is that of its entry
abbrev pub IsChild : Child → Type 0
IsChild child = child.entry_type.now ≡ type_of (entry_reading_of child.entry.now)
