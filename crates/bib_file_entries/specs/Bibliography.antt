-- Meaning: words of public contracts.
-- A bibliography: a list of entries, and names that point to their indices.
use Rattle.std.specs.Prelude.{ℕ, List, [], ◌∷◌, ◌++◌, length, slice_get, slice_set, Option, Some, None, option_and_then, codes, refl}
use Rattle.std.specs.List.{remove}
use Rattle.std.specs.Option.{option_map_or}
use Rattle.std.specs.FinMap as by_name
use Rattle.std.specs.Coded.{Coded, code_by, coded×, coded_list, coded_ℕ}
use Rattle.bib_chunks.specs.Styled.{styled}
use Rattle.bib_entry.specs.declared.entry.Entry.{Entry}
use Rattle.bib_entry.specs.contracts.entry.Entry as entry
use Rattle.bib_collections.specs.Sorted.{ByText}
use Rattle.bib_collections.specs.Names.{with_claims, claims_for, without_index}
use Rattle.bib_chunks.specs.Lists.{comma_texts}

-- entries in order, and names, each pointing to an index
pub record Bibliography : Type 0 where
  pub entries : List Entry
  pub names : ByText ℕ

-- a bibliography is stored as the pair of its fields
abbrev pub bibliography_code : Coded Bibliography
bibliography_code =
    code_by (List Entry × ByText ℕ)
    (coded× (coded_list entry.the_row.coded) (by_name.code (coded_list coded_ℕ) coded_ℕ))
    (λ l. (l.entries, l.names)) (λ p. record { entries = p.0; names = p.1 }) (λ _. refl)

-- the other names of an entry: the items of its field `ids`, a comma-separated list
abbrev pub aliases : Entry → List (List ℕ)
aliases entry = option_map_or (λ chunks. comma_texts (styled chunks)) (by_name.get entry.fields (codes "ids")) []

-- the names that an entry claims: its key, then its other names
abbrev pub claims : Entry → List (List ℕ)
claims entry = entry.key ∷ aliases entry

-- the bibliography without entries and names
abbrev pub empty_bibliography : Bibliography
empty_bibliography = record { entries = []; names = by_name.empty }

-- the index that a name points to
abbrev pub index_of : Bibliography → List ℕ → Option ℕ
index_of bibliography name = by_name.get bibliography.names name

-- the entry that a name points to
abbrev pub entry_of : Bibliography → List ℕ → Option Entry
entry_of bibliography name = option_and_then (λ index. slice_get bibliography.entries index) (index_of bibliography name)

-- a bibliography with an entry added at the end; the names that the entry claims point to it
abbrev pub with_last_entry : Bibliography → Entry → Bibliography
with_last_entry bibliography entry = record {
  entries = bibliography.entries ++ entry ∷ [];
  names = with_claims bibliography.names (claims_for (claims entry) (length bibliography.entries));
}

-- a bibliography with the entry at an index replaced, and the names unchanged
abbrev pub with_other_entry : Bibliography → ℕ → Entry → Bibliography
with_other_entry bibliography index entry = record bibliography { entries = slice_set bibliography.entries index entry }

-- a bibliography with an entry added: in place of the entry at the index, if there is one, and at the end otherwise
abbrev pub with_entry_at : Bibliography → Entry → Option ℕ → Bibliography
with_entry_at bibliography entry (Some index) = with_other_entry bibliography index entry
with_entry_at bibliography entry None = with_last_entry bibliography entry

-- a bibliography with an entry added: in place of the entry that its key points to, if there is one, and at the end otherwise
abbrev pub with_entry_by_key : Bibliography → Entry → Bibliography
with_entry_by_key bibliography entry = with_entry_at bibliography entry (index_of bibliography entry.key)

-- a bibliography without the entry at an index, and without the names that point to it; greater indices decrease by one
abbrev pub without_entry : Bibliography → ℕ → Bibliography
without_entry bibliography index = record { entries = remove bibliography.entries index; names = without_index bibliography.names index }

-- a bibliography without the entry at an index; unchanged if there is no index
abbrev pub without_entry_at : Bibliography → Option ℕ → Bibliography
without_entry_at bibliography (Some index) = without_entry bibliography index
without_entry_at bibliography None = bibliography

-- a bibliography without the entry that a name points to, and without all names that point to it; unchanged if there is none
abbrev pub without_entry_by_name : Bibliography → List ℕ → Bibliography
without_entry_by_name bibliography name = without_entry_at bibliography (index_of bibliography name)

-- a bibliography with another name that points to an index; unchanged if there is no index
abbrev pub with_alias_at : Bibliography → List ℕ → Option ℕ → Bibliography
with_alias_at bibliography alias (Some index) = record bibliography { names = by_name.insert bibliography.names alias index }
with_alias_at bibliography alias None = bibliography

-- a bibliography with another name (`alias`) for the entry that a name points to; unchanged if there is none
abbrev pub with_alias : Bibliography → List ℕ → List ℕ → Bibliography
with_alias bibliography name alias = with_alias_at bibliography alias (index_of bibliography name)
