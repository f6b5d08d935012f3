-- Meaning: words of public contracts.
-- The bibliography files that a document names.
use Rattle.std.specs.Prelude.{ℕ, ◌==◌, if◌then◌else◌, List, [], ◌∷◌, ◌++◌, codes, eqb, map}
use Rattle.std.specs.List.{ends_with, flat_map, slice_split}
use Rattle.std.specs.Option.{option_map_or}
use Rattle.bib_text.specs.Characters as char
use Rattle.bib_queries.specs.Elements.{source_name}
use Rattle.bib_queries.specs.Lines.{aux_data}
use Rattle.bib_queries.specs.Names.{comma_parts}

-- the file name for a name in `\bibdata`: the name with `.bib` at its end, which is added if it is missing
abbrev pub file_name : List ℕ → List ℕ
file_name name = if ends_with eqb name (codes ".bib") then name else name ++ codes ".bib"

-- the names in the first of these lines that begins with a complete `\bibdata`; BibTeX skips the others
abbrev pub first_data : List (List ℕ) → List (List ℕ)
first_data [] = []
first_data (line ∷ rest) = option_map_or comma_parts (aux_data line) (first_data rest)

-- the .bib files that an .aux file names
abbrev pub aux_sources : List ℕ → List (List ℕ)
aux_sources text = map file_name (first_data (slice_split (λ b. b == char.line_feed) text))

-- the files that a control file names
abbrev pub bcf_sources : List ℕ → List (List ℕ)
bcf_sources text = flat_map source_name (slice_split (λ b. b == char.less) text)
