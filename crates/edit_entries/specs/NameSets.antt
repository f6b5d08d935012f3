-- Machinery: words of private contracts.
-- The names of entries as a set.
use Rattle.std.specs.Prelude.{◌≡◌, ◌++◌, ℕ, Bool, false, List, Some, slice_get, take}
use Rattle.std.specs.Str.{str_to_ascii_lowercase}
use Rattle.bib_syntax.specs.Reading.{EntryReading}
use Rattle.bib_queries.specs.Known.{all_names}
use Rattle.edit_entries.specs.NewNames.{has_word, shares_name}

-- whether a set contains a name in ASCII lowercase; `has` tests whether it contains a text
abbrev pub holds_name : (List ℕ → Bool) → List ℕ → Bool
holds_name has name = has (str_to_ascii_lowercase name)

-- a set contains the names of these entries in ASCII lowercase, and no other text in ASCII lowercase
abbrev pub AreNamesOf : List EntryReading → (List ℕ → Bool) → Type 0
AreNamesOf entries has = (name : List ℕ) → holds_name has name ≡ has_word (all_names entries) name

-- none of `others` has a name, in any ASCII case, of one of `entries` or of an earlier one of `others`
abbrev pub NoneSharesName : List EntryReading → List EntryReading → Type 0
NoneSharesName entries others =
    (k : ℕ) (e : EntryReading) → slice_get others k ≡ Some e → shares_name (entries ++ take k others) e ≡ false
