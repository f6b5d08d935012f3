-- Meaning: words of public contracts.
-- A file with inherited fields written out.
use Rattle.std.specs.Prelude.{ℕ, zero, suc, Bool, if◌then◌else◌, List, [], ◌∷◌, ◌++◌, bytes_eq, length, map, filter, Option, Some, None, unwrap_or, ⊤}
use Rattle.std.specs.List.{find, flat_map, list_any}
use Rattle.bib_text.specs.Enums.{value_named}
use Rattle.bib_collections.specs.Graph.{IsFirstOnCycle}
use Rattle.bib_queries.specs.Needed.{is_listed}
use Rattle.bib_syntax.specs.Reading.{EntryReading, FieldReading}
use Rattle.bib_tables.specs.declared.mechanics.EntryType.{EntryType}
use Rattle.edit_entries.specs.Changes.{EntryChange, FieldChange, IsChanged, NewField, spaced_sign}
use Rattle.edit_entries.specs.Documents.{Document}
use Rattle.edit_entries.specs.Setting.{white_before}
use Rattle.edit_strings.specs.Expanded.{laid_out}
use Rattle.edit_resolve.specs.Inheritance.{keeps_name, name_by_crossref, passes_on, read_name, rival_names}
use Rattle.edit_resolve.specs.Parents.{entry_at, is_resolved, parent_graph, parents, type_of}
use Rattle.edit_resolve.specs.declared.errors.ResolveError.{ResolveError}
use Rattle.edit_resolve.specs.declared.errors.ResolveError.TheVariants.{Cycle, OutOfMemory}
use Rattle.edit_resolve.specs.declared.parents.Link.{Link}
use Rattle.edit_resolve.specs.declared.parents.Link.TheVariants.{Crossref, Xdata}
use Rattle.edit_resolve.specs.declared.parents.Parent.{Parent}

-- ---- the fields that a parent offers

-- a name, and the field of the file that has the value
pub record Named : Type 0 where
  pub name : List ℕ
  pub field : FieldReading

-- a field under its own name
abbrev pub as_itself : FieldReading → Named
as_itself f = record { name = f.name.text; field = f }

-- a field under a new name, if there is one
abbrev pub renamed : Named → Option (List ℕ) → List Named
renamed n None = []
renamed n (Some name) = record { name = name; field = n.field } ∷ []

-- the fields that a parent of the first type offers an entry of the second type: by `crossref` those with new names first
abbrev pub offers : Link → EntryType → EntryType → List Named → List Named
offers Xdata type child fields = filter (λ n. passes_on (read_name n.name)) fields
offers Crossref type child fields =
    flat_map (λ n. renamed n (name_by_crossref type child (read_name n.name))) fields
    ++ filter (λ n. keeps_name type child (read_name n.name)) fields

-- ---- the fields that take the place of own fields

-- whether Biber reads a field under this name
abbrev pub is_read_as : List ℕ → Named → Bool
is_read_as name n = bytes_eq (read_name n.name) name

-- the fields of a parent that replace the entry's own fields of the same names, as in Biber: only those of entries that `xdata`
-- names
abbrev pub given_fields : Link → List Named → List Named
given_fields Xdata fields = filter (λ n. passes_on (read_name n.name)) fields
given_fields Crossref fields = []

-- the fields that parents give, if they have these fields
abbrev pub given_fields_by : (ℕ → List Named) → List Parent → List Named
given_fields_by fields parents = flat_map (λ p. given_fields p.link (fields p.index)) parents

-- the given field that takes the place of an own field: the first one with its name
abbrev pub substitute : List Named → FieldReading → Option Named
substitute fields f = find (is_read_as (read_name f.name.text)) fields

-- the field that takes the place of an own field, or else the own field itself
abbrev pub in_place : List Named → FieldReading → Named
in_place fields f = unwrap_or (substitute fields f) (as_itself f)

-- ---- the fields that an entry inherits

-- whether a field can't be inherited, since there is one with this name, or with a name that excludes it
abbrev pub is_ruled_out : List (List ℕ) → List ℕ → Bool
is_ruled_out taken name = list_any (is_listed taken) (name ∷ unwrap_or (value_named rival_names name) [])

-- the offered fields that are inherited: each whose name isn't taken by an own field or by an inherited field before it. A name
-- that excludes it mustn't be taken either.
abbrev pub new_fields : List (List ℕ) → List Named → List Named
new_fields taken [] = []
new_fields taken (n ∷ offered) =
    if is_ruled_out taken (read_name n.name) then new_fields taken offered
    else n ∷ new_fields (taken ++ read_name n.name ∷ []) offered

-- the fields that an entry is offered, if its parents have these fields
abbrev pub offered_by : List EntryReading → (ℕ → List Named) → EntryReading → List Named
offered_by entries fields e =
    flat_map (λ p. offers p.link (type_of (entry_at entries p.index)) (type_of e) (fields p.index)) (parents entries e)

-- the fields that an entry inherits, if its parents have these fields
abbrev pub inherited_by : List EntryReading → (ℕ → List Named) → EntryReading → List Named
inherited_by entries fields e = new_fields (map (λ f. read_name f.name.text) e.fields) (offered_by entries fields e)

-- the fields of an entry, if its parents have these fields: its own ones, or those that take their places, and those that it inherits
abbrev pub fields_by : List EntryReading → (ℕ → List Named) → EntryReading → List Named
fields_by entries fields e = map (in_place (given_fields_by fields (parents entries e))) e.fields ++ inherited_by entries fields e

-- the fields of the entry at an index, along at most this many references one after another
abbrev pub fields_along : List EntryReading → ℕ → ℕ → List Named
fields_along entries zero index = map as_itself (entry_at entries index).fields
fields_along entries (suc most) index = fields_by entries (fields_along entries most) (entry_at entries index)

-- the fields of the entry at an index. Without a cycle, there are fewer references one after another than entries.
abbrev pub all_fields : List EntryReading → ℕ → List Named
all_fields entries index = fields_along entries (length entries) index

-- the fields that an entry inherits
abbrev pub inherited : List EntryReading → EntryReading → List Named
inherited entries e = inherited_by entries (all_fields entries) e

-- the field that takes the place of an own field of an entry
abbrev pub replacement : List EntryReading → EntryReading → FieldReading → Option Named
replacement entries e f = substitute (given_fields_by (all_fields entries) (parents entries e)) f

-- ---- the text

-- a new field: its value has the pieces of the file as they are written there, with ` # ` between them
abbrev pub new_field : List ℕ → Named → NewField
new_field text n = record { name = n.name; value = record { bytes = laid_out text n.field.value.pieces; pieces = n.field.value.pieces } }

-- the change of an entry's last resolved reference; `following` are the fields after it. The inherited fields replace it. If there are
-- none, it is removed, or kept if no field follows.
abbrev pub last_change : List ℕ → List Named → FieldReading → List FieldReading → FieldChange
last_change text (n ∷ ns) f following =
    FieldChange.replaced spaced_sign (new_field text n) (map (new_field text) ns) (white_before text f.name.start)
last_change text [] f [] = FieldChange.kept
last_change text [] f (g ∷ gs) = FieldChange.removed

-- the change of an own field: the field that takes its place replaces it, if there is one
abbrev pub own_change : List ℕ → Option Named → FieldChange
own_change text None = FieldChange.kept
own_change text (Some n) = FieldChange.replaced spaced_sign (new_field text n) [] []

-- the change of a field; `following` are the fields after it. Each resolved reference before the last one is removed
abbrev pub field_resolution : List ℕ → (FieldReading → Bool) → (FieldReading → Option Named) → List Named → FieldReading
    → List FieldReading → FieldChange
field_resolution text resolved instead new f following =
    if resolved f then (if list_any resolved following then FieldChange.removed else last_change text new f following)
    else own_change text (instead f)

-- the changes of fields
abbrev pub field_resolutions : List ℕ → (FieldReading → Bool) → (FieldReading → Option Named) → List Named → List FieldReading
    → List FieldChange
field_resolutions text resolved instead new [] = []
field_resolutions text resolved instead new (f ∷ fs) =
    field_resolution text resolved instead new f fs ∷ field_resolutions text resolved instead new fs

-- the change of an entry
abbrev pub resolution : List ℕ → List EntryReading → EntryReading → EntryChange
resolution text entries e = record {
  kind = None;
  fields = field_resolutions text (is_resolved entries) (replacement entries e) (inherited entries e) e.fields;
}

-- a text is that of a document with inherited fields written out, and it parses to the entries with these fields, except for byte offsets
abbrev pub IsResolved : Document → List ℕ → Type 0
IsResolved d text = IsChanged (resolution d.text d.says.entries) d text

-- the conditions of an error: the entry at this index is the first that inherits from itself, directly or through others. Memory may
-- always run out
abbrev pub IsResolveError : List EntryReading → ResolveError → Type 0
IsResolveError entries (Cycle index) = IsFirstOnCycle (parent_graph entries) index
IsResolveError entries OutOfMemory = ⊤

-- for each error, the condition under which resolving a document may be refused with it
abbrev pub ResolveIsRefused : Document → ResolveError → Type 0
ResolveIsRefused d e = IsResolveError d.says.entries e
