-- Machinery: words of private contracts.
-- Parts of a file counted by their texts.
use Rattle.std.specs.Prelude.{◌≡◌, ◌<◌, ℕ, List, [], ◌++◌, get_or, length, map, min, ◌+◌, Option, Some}
use Rattle.std.specs.Str.{str_to_ascii_lowercase}
use Rattle.bib_tables.specs.Requirements.{Names}
use Rattle.bib_syntax.specs.Reading.{FieldReading, Part}
use Rattle.bib_syntax.specs.Views.{part_of}
use Rattle.bib_findings.specs.Once.{count_of, first_parts, most_counted}
use Rattle.bib_findings.specs.declared.once.Counted.{Counted}

-- the first part of a count, and the count itself
abbrev pub counted_of : Counted → Part × ℕ
counted_of c = (part_of c.first.now, c.count)

-- the text of a part in ASCII lowercase
abbrev pub lowercase_part : Part → List ℕ
lowercase_part p = str_to_ascii_lowercase p.text

-- the name of a field in ASCII lowercase
abbrev pub lowercase_name : FieldReading → List ℕ
lowercase_name f = lowercase_part f.name

-- the texts of counts in ASCII lowercase
abbrev pub counted_texts : List Counted → Names
counted_texts = map (λ c. lowercase_part (part_of c.first.now))

-- a count with one part more, at most the greatest that is counted
abbrev pub one_part_more : ℕ → ℕ
one_part_more count = min (count + 1) most_counted

-- the first part with each text, and the number of parts with this text, at most the greatest that is counted
abbrev pub counts : List Part → List (Part × ℕ)
counts parts = map (count_of parts) (first_parts parts)

-- whether these are the counts of some parts
abbrev pub ArePartsCounted : List Counted → List Part → Type 0
ArePartsCounted counted parts = map counted_of counted ≡ counts parts

-- whether counts of some parts became counts of these and of more parts
abbrev pub CountsMore : List Part → List Counted → List Counted → Type 0
CountsMore more old new = (parts : List Part) → ArePartsCounted old parts → ArePartsCounted new (parts ++ more)

-- whether each of these names has its index in the list, and no other name has an index
pub record HasIndices (index_of : List ℕ → Option ℕ) (names : Names) : Type 0 where
  pub each : (i : ℕ) → i < length names → index_of (get_or names i []) ≡ Some i
  pub only : (name : List ℕ) (i : ℕ) → index_of name ≡ Some i → (i < length names) × (get_or names i [] ≡ name)
