-- Meaning: words of public contracts.
-- The names of people in lines of RIS: the family name, the given name and a suffix, with commas between them.
use Rattle.std.specs.Prelude.{ℕ, Bool, ◌==◌, ◌&&◌, if◌then◌else◌, List, [], length}
use Rattle.std.specs.List.{list_any, before_first, after_first}
use Rattle.std.specs.Str.{trim}
use Rattle.bib_text.specs.Characters as char
use Rattle.bib_csl.specs.declared.item.Name.{Name}
use Rattle.bib_csl.specs.declared.item.Name.TheVariants.{Literal, Parts}

-- the text before the first comma
abbrev pub left_of_comma : List ℕ → List ℕ
left_of_comma text = before_first (λ b. b == char.comma) text

-- the text after the first comma, or nothing without a comma
abbrev pub right_of_comma : List ℕ → List ℕ
right_of_comma text = after_first (λ b. b == char.comma) text

-- the text before the first comma is the family name
abbrev pub family_in : List ℕ → List ℕ
family_in text = trim (left_of_comma text)

-- the text between the first two commas is the given name
abbrev pub given_in : List ℕ → List ℕ
given_in text = trim (left_of_comma (right_of_comma text))

-- the text after the second comma is the suffix
abbrev pub suffix_in : List ℕ → List ℕ
suffix_in text = trim (right_of_comma (right_of_comma text))

-- whether a text contains a space
abbrev pub has_space : List ℕ → Bool
has_space text = list_any (λ b. b == char.space) text

-- whether a name has no parts, such as that of an institution: it has several words, and neither a given name nor a suffix
unfoldable pub has_no_parts : List ℕ → Bool
has_no_parts text = (length (given_in text) == 0) && ((length (suffix_in text) == 0) && has_space (family_in text))

-- a name with its parts
unfoldable pub parted_name : List ℕ → Name
parted_name text = Parts (record {
  family = family_in text;
  given = given_in text;
  suffix = suffix_in text;
  dropping_particle = [];
  non_dropping_particle = [];
})

-- a name
unfoldable pub ris_name : List ℕ → Name
ris_name text = if has_no_parts text then Literal (family_in text) else parted_name text
