-- Machinery: words of private contracts.
-- Sets of names in ASCII lowercase.
use Rattle.std.specs.Prelude.{◌≡◌, ℕ, Bool, List, bytes_eq, map}
use Rattle.std.specs.Borrow.{Bor}
use Rattle.std.specs.List.{list_any}
use Rattle.std.specs.Str.{str_to_ascii_lowercase}
use Rattle.bib_tables.specs.Requirements.{Names}
use Rattle.bib_syntax.specs.Reading.{FieldReading}

-- the texts of borrowed names
abbrev pub borrowed_texts : List (Bor (List ℕ)) → Names
borrowed_texts names = map (λ name. name.now) names

-- the names of definitions
abbrev pub names_of_definitions : List FieldReading → Names
names_of_definitions definitions = map (λ f. f.name.text) definitions

-- whether a set has exactly these names in ASCII lowercase
abbrev pub HasLowercaseNames : (List ℕ → Bool) → Names → Type 0
HasLowercaseNames has names = (name : List ℕ) → has name ≡ list_any (λ one. bytes_eq name (str_to_ascii_lowercase one)) names
