-- Meaning: words of public contracts.
-- The fields of parents that entries lack, since the rules of BibLaTeX don't let the entries inherit them.
use Rattle.std.specs.Prelude.{ℕ, Bool, not, ◌&&◌, if◌then◌else◌, List, [], ◌∷◌, ◌++◌, codes, length, ◌==◌, map}
use Rattle.std.specs.List.{filter, flat_map, list_any}
use Rattle.bib_syntax.specs.Reading.{EntryReading, FieldReading}
use Rattle.bib_tables.specs.Requirements.{is_one_of}
use Rattle.bib_tables.specs.declared.mechanics.EntryType.{EntryType}
use Rattle.edit_resolve.specs.Inheritance.{read_name}
use Rattle.edit_resolve.specs.Parents.{entry_at, field_parents, is_resolved, type_of}
use Rattle.edit_resolve.specs.Resolved.{Named, all_fields, fields_by, is_read_as, offers}
use Rattle.edit_resolve.specs.declared.parents.Link.{Link}
use Rattle.edit_resolve.specs.declared.parents.Link.TheVariants.{Crossref, Xdata}
use Rattle.edit_resolve.specs.declared.parents.Parent.{Parent}

-- the field with other names of its entry (`ids`), and the reference fields `crossref`, `xref` and `xdata`
abbrev pub linking_fields : List (List ℕ)
linking_fields = codes "ids" ∷ codes "crossref" ∷ codes "xref" ∷ codes "xdata" ∷ []

-- whether a parent of the first type offers an entry of the second type a field, under any name
abbrev pub is_offered : Link → EntryType → EntryType → Named → Bool
is_offered link type child n = not (length (offers link type child (n ∷ [])) == 0)

-- whether an entry of the second type lacks a field of a parent of the first type. The parent doesn't offer it, and the entry has no field
-- with its name. `has` decides which names the fields of the entry have. Linking fields don't count.
abbrev pub is_lacking : Link → EntryType → EntryType → (List ℕ → Bool) → Named → Bool
is_lacking link type child has n =
    not (is_one_of linking_fields (read_name n.name)) && not (is_offered link type child n) && not (has (read_name n.name))

-- the names of the fields of a parent that an entry lacks, in order, if the entries of the file have these fields
abbrev pub lacking_names : List EntryReading → (ℕ → List Named) → (List ℕ → Bool) → EntryReading → Parent → List (List ℕ)
lacking_names entries fields has e p =
    map (λ n. n.name) (filter (is_lacking p.link (type_of (entry_at entries p.index)) (type_of e) has) (fields p.index))

-- fields of a parent that an entry lacks: the entry, its reference to the parent, the parent, and the names of the fields
pub record Uninherited : Type 0 where
  pub entry : EntryReading
  pub reference : FieldReading
  pub parent : EntryReading
  pub names : List (List ℕ)

-- the fields of a parent with these names, if there is a name
abbrev pub uninherited_of : EntryReading → FieldReading → EntryReading → List (List ℕ) → List Uninherited
uninherited_of e f parent [] = []
uninherited_of e f parent (name ∷ names) = record { entry = e; reference = f; parent = parent; names = name ∷ names } ∷ []

-- the parents that a resolved reference names, in order
abbrev pub reference_parents : List EntryReading → FieldReading → List Parent
reference_parents entries f =
    if is_resolved entries f then field_parents entries Crossref f ++ field_parents entries Xdata f else []

-- the fields that an entry lacks of the parents that a resolved reference names
abbrev pub uninherited_by : List EntryReading → (ℕ → List Named) → (List ℕ → Bool) → EntryReading → FieldReading → List Uninherited
uninherited_by entries fields has e f =
    flat_map (λ p. uninherited_of e f (entry_at entries p.index) (lacking_names entries fields has e p)) (reference_parents entries f)

-- the fields that an entry lacks of the parents that its resolved references name
abbrev pub uninherited_in : List EntryReading → (ℕ → List Named) → (List ℕ → Bool) → EntryReading → List Uninherited
uninherited_in entries fields has e = flat_map (uninherited_by entries fields has e) e.fields

-- whether Biber reads one of the fields of an entry under this name, after it inherits
abbrev pub has_read_name : List EntryReading → EntryReading → List ℕ → Bool
has_read_name entries e name = list_any (is_read_as name) (fields_by entries (all_fields entries) e)

-- the fields of parents that entries lack, in the order of the references
abbrev pub uninherited : List EntryReading → List Uninherited
uninherited entries = flat_map (λ e. uninherited_in entries (all_fields entries) (has_read_name entries e) e) entries
