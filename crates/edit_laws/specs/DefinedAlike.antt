-- Meaning: words of public contracts.
-- Files in which the library finds the same definitions as programs that read a file from its start to its end.
use Rattle.std.specs.Prelude.{◌≡◌, ℕ, List, ⊤}
use Rattle.std.specs.List.{AllByRecursion}
use Rattle.std.specs.Option.{option_map}
use Rattle.bib_file_entries.specs.Loaded.{definition_in}
use Rattle.bib_syntax.specs.Reading.{FieldReading, FileReading, Piece}
use Rattle.bib_syntax.specs.Reading.Piece.{abbreviation, literal}
use Rattle.edit_strings.specs.Expanded.{count_before, elements, elements_at, index_before}

-- a name whose place is after the first `count` definitions has the same definition by two rules. One takes the last definition before its
-- place with this name in any ASCII case. The other, that of the library, takes the last one in the file with exactly this name.
abbrev pub HasSameDefinition : List FieldReading → ℕ → Piece → Type 0
HasSameDefinition definitions count (literal p) = ⊤
HasSameDefinition definitions count (abbreviation p) =
    option_map (elements_at definitions) (index_before definitions count p.text) ≡ definition_in definitions p.text

-- each name in the definitions and in the entries of a file has the same definition by both rules
pub record AreDefinedAlike (says : FileReading) : Type 0 where
  pub definitions : (index : ℕ)
      → AllByRecursion (HasSameDefinition says.abbreviations index) (elements_at says.abbreviations index)
  pub entries : AllByRecursion
      (λ e.
      AllByRecursion
      (λ f. AllByRecursion (HasSameDefinition says.abbreviations (count_before says.abbreviations e)) (elements f)) e.fields)
      says.entries
