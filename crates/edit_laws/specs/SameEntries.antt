-- Meaning: words of public contracts.
-- Bibliographies whose entries have the same keys, types and styled texts of fields, in any order.
use Rattle.std.specs.Prelude.{◌≡◌, ℕ, List, map, option_map}
use Rattle.std.specs.List.Sorted.{IsPermutation}
use Rattle.bib_entry.specs.declared.entry.Entry.{Entry}
use Rattle.bib_file_entries.specs.Bibliography.{Bibliography, entry_of}
use Rattle.bib_inheritance.specs.EntryTexts.{EntryTexts}
use Rattle.bib_inheritance.specs.Resolving.{texts_of_entry}
use Rattle.biblatex.specs.Places.{ClaimsAt}

-- the key of an entry, its type and the styled texts of its fields
abbrev pub described : Entry → List ℕ × EntryTexts
described e = (e.key, texts_of_entry e)

-- no two entries claim one name, as a key or in `ids`
abbrev pub AreClaimsDistinct : List Entry → Type 0
AreClaimsDistinct own = (name : List ℕ) (i j : ℕ) → ClaimsAt own i name → ClaimsAt own j name → i ≡ j

-- two bibliographies have the same entries, in any order, and each name points to the same entry in both. Entries are compared by
-- `described`
pub record HaveSameEntries (one other : Bibliography) : Type 0 where
  pub entries : IsPermutation (map described one.entries) (map described other.entries)
  pub names : (name : List ℕ) → option_map described (entry_of one name) ≡ option_map described (entry_of other name)
