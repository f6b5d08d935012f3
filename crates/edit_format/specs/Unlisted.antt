-- Machinery: words of private contracts.
-- Fields that have none of some names.
use Rattle.std.specs.Prelude.{◌&&◌, ℕ, Bool, List, map, not}
use Rattle.std.specs.Borrow.{Bor}
use Rattle.std.specs.List.{filter, list_any}
use Rattle.bib_syntax.specs.Reading.{FieldReading}
use Rattle.edit_entries.specs.Documents.{has_name}

-- the texts of some names
abbrev pub name_texts : List (Bor (List ℕ)) → List (List ℕ)
name_texts names = map (λ name. name.now) names

-- whether a field has one of some names
abbrev pub has_one_of : List (List ℕ) → FieldReading → Bool
has_one_of names f = list_any (λ name. has_name name f) names

-- whether a field has this name and none of the names `before`
abbrev pub has_name_first : List (List ℕ) → List ℕ → FieldReading → Bool
has_name_first before name f = has_name name f && not (has_one_of before f)

-- the fields that have none of some names
abbrev pub unlisted : List (List ℕ) → List FieldReading → List FieldReading
unlisted names fields = filter (λ f. not (has_one_of names f)) fields
