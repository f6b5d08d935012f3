-- Meaning: words of public contracts.
-- Files that differ in one entry, which is removed: their entries before inheriting, and their bibliographies.
use Rattle.std.specs.Prelude.{◌≡◌, ℕ, List, map, slice_get, Some, option_and_then}
use Rattle.std.specs.List.{Contains, remove}
use Rattle.bib_collections.specs.Graph.{refs_of}
use Rattle.bib_collections.specs.Names.{index_after_removal}
use Rattle.bib_entry.specs.declared.entry.Entry.{Entry}
use Rattle.bib_file_entries.specs.Bibliography.{Bibliography, index_of}
use Rattle.bib_inheritance.specs.Resolving.{texts_of_entries}
use Rattle.biblatex.specs.Resolved.{graph_of}

-- no entry refers to the entry with a key by its own `crossref` or `xdata`; `own` are the entries before inheriting
abbrev pub IsUnreferenced : List Entry → List ℕ → Type 0
IsUnreferenced own key =
    (index : ℕ) (entry : Entry) → slice_get own index ≡ Some entry → entry.key ≡ key → (at : ℕ)
    → Contains (refs_of (graph_of own) at) index → ⊥

-- the entries `others` have the keys, types and styled texts of fields of `own`, without the entry with a key
pub record AreWithout (own others : List Entry) (key : List ℕ) : Type 0 where
  pub index : ℕ
  pub entry : Entry
  pub here : slice_get own index ≡ Some entry
  pub is : entry.key ≡ key
  pub keys : map (λ e. e.key) others ≡ remove (map (λ e. e.key) own) index
  pub texts : texts_of_entries others ≡ remove (texts_of_entries own) index

-- the bibliography `other` has the keys, types and styled texts of fields of `one`, without the entry with a key. A name that didn't
-- point to this entry points to the entry that it pointed to.
pub record IsBibliographyWithout (one other : Bibliography) (key : List ℕ) : Type 0 where
  pub index : ℕ
  pub entry : Entry
  pub here : slice_get one.entries index ≡ Some entry
  pub is : entry.key ≡ key
  pub keys : map (λ e. e.key) other.entries ≡ remove (map (λ e. e.key) one.entries) index
  pub texts : texts_of_entries other.entries ≡ remove (texts_of_entries one.entries) index
  pub names : (name : List ℕ) → (index_of one name ≡ Some index → ⊥)
      → index_of other name ≡ option_and_then (index_after_removal index) (index_of one name)
