-- Meaning: words of public contracts.
-- The parents of an entry: the entries that it inherits from, which Biber finds by the keys in its fields `crossref` and `xdata`.
use Rattle.std.specs.Prelude.{ℕ, Bool, not, ◌&&◌, ◌||◌, if◌then◌else◌, is_some, List, [], ◌++◌, codes, length, ◌==◌, map, reverse, slice_index_or, Option, Some, None}
use Rattle.std.specs.List.{filter_map, flat_map, list_all}
use Rattle.std.specs.Str.{trim}
use Rattle.bib_collections.specs.Graph.{Graph}
use Rattle.bib_queries.specs.Names.{comma_parts, name_if_filled}
use Rattle.bib_syntax.specs.Grammar.{is_word}
use Rattle.bib_syntax.specs.Reading.{EntryReading, FieldReading}
use Rattle.bib_tables.specs.EntryType.{entry_type_of}
use Rattle.bib_tables.specs.Requirements.{is_container}
use Rattle.bib_tables.specs.declared.mechanics.EntryType.{EntryType}
use Rattle.edit_entries.specs.Documents.{first_position, is_keyed, text_at}
use Rattle.edit_entries.specs.References.{has_alias}
use Rattle.edit_strings.specs.Collected.{single_text}
use Rattle.std.specs.Option.{option_or}
use Rattle.edit_resolve.specs.declared.parents.Link.{Link}
use Rattle.edit_resolve.specs.declared.parents.Link.TheVariants.{Crossref, Xdata}
use Rattle.edit_resolve.specs.declared.parents.Parent.{Parent}

-- ---- entries

-- the index of the entry that Biber finds by a name: the first one with this key, or else the first one with the name in its fields `ids`
abbrev pub entry_index : List EntryReading → List ℕ → Option ℕ
entry_index entries name = option_or (first_position (is_keyed name) entries) (first_position (has_alias name) entries)

-- an entry without a type, a key and fields
abbrev pub no_reading : EntryReading
no_reading = record { key = text_at 0 []; kind = text_at 0 []; fields = []; start = 0; end = 0 }

-- the entry at an index
abbrev pub entry_at : List EntryReading → ℕ → EntryReading
entry_at entries index = slice_index_or entries index no_reading

-- the type of an entry
abbrev pub type_of : EntryReading → EntryType
type_of e = entry_type_of e.kind.text

-- the index, if there is one and the entry there has the type `xdata`
abbrev pub container_index : List EntryReading → Option ℕ → Option ℕ
container_index entries None = None
container_index entries (Some index) = if is_container (type_of (entry_at entries index)) then Some index else None

-- the index of the parent that a reference finds by a key: `xdata` finds only entries of the type `xdata`
abbrev pub parent_index : List EntryReading → Link → List ℕ → Option ℕ
parent_index entries Crossref key = entry_index entries key
parent_index entries Xdata key = container_index entries (entry_index entries key)

-- ---- references

-- the name of the field of a reference
abbrev pub link_name : Link → List ℕ
link_name Crossref = codes "crossref"
link_name Xdata = codes "xdata"

-- the keys in the text of a reference: `crossref` has at most one key, and `xdata` a list of keys with commas between them
abbrev pub named_keys : Link → List ℕ → List (List ℕ)
named_keys Crossref text = name_if_filled (trim text)
named_keys Xdata text = comma_parts text

-- the keys in the value of a reference; none if the value isn't one literal
abbrev pub value_keys : Link → Option (List ℕ) → List (List ℕ)
value_keys link None = []
value_keys link (Some text) = named_keys link text

-- the keys in a field if it is this reference, otherwise none
abbrev pub field_keys : Link → FieldReading → List (List ℕ)
field_keys link f = if is_word f.name.text (link_name link) then value_keys link (single_text f.value.pieces) else []

-- the parent at an index
abbrev pub parent : Link → ℕ → Parent
parent link index = record { link = link; index = index }

-- the parents that a field refers to, in order
abbrev pub field_parents : List EntryReading → Link → FieldReading → List Parent
field_parents entries link f = map (parent link) (filter_map (parent_index entries link) (field_keys link f))

-- the parents that fields refer to, in order
abbrev pub linked : List EntryReading → Link → List FieldReading → List Parent
linked entries link fields = flat_map (field_parents entries link) fields

-- the parents of an entry: those of `xdata`, and then those of `crossref`, each from the last to the first. In this order, Biber takes
-- a field from the first one that has it
abbrev pub parents : List EntryReading → EntryReading → List Parent
parents entries e = reverse (linked entries Crossref e.fields ++ linked entries Xdata e.fields)

-- for each entry, the indices of its parents
abbrev pub parent_graph : List EntryReading → Graph
parent_graph entries = map (λ e. map (λ p. p.index) (parents entries e)) entries

-- whether there are keys, and a parent is found by each of them
abbrev pub are_found : List EntryReading → Link → List (List ℕ) → Bool
are_found entries link keys = not (length keys == 0) && list_all (λ key. is_some (parent_index entries link key)) keys

-- whether a field is a reference with keys, by each of which a parent is found
abbrev pub is_resolved : List EntryReading → FieldReading → Bool
is_resolved entries f = are_found entries Crossref (field_keys Crossref f) || are_found entries Xdata (field_keys Xdata f)
