-- Meaning: words of public contracts.
-- The references of an entry: the fields `crossref` and `xdata` of the BibLaTeX manual.
use Rattle.std.specs.Prelude.{ℕ, false, List, [], ◌∷◌, ◌++◌, codes, encode_utf8_all}
use Rattle.std.specs.List.{filter_map}
use Rattle.std.specs.Option.{option_map_or}
use Rattle.std.specs.FinMap as by_name
use Rattle.bib_chunks.specs.Formatted.{formatted_atoms}
use Rattle.bib_chunks.specs.Lists.{comma_texts}
use Rattle.bib_chunks.specs.Styled.{Atom}
use Rattle.bib_collections.specs.Sorted.{ByText}
use Rattle.bib_inheritance.specs.EntryTexts.{FieldTexts}

-- the plain text of a styled text
abbrev pub plain : List Atom → List ℕ
plain atoms = encode_utf8_all (formatted_atoms false atoms)

-- the names that an entry refers to: the text of `crossref`, including white space at its ends, and then the items of the
-- comma-separated list `xdata`
abbrev pub reference_names : FieldTexts → List (List ℕ)
reference_names fields =
    option_map_or (λ atoms. plain atoms ∷ []) (fields (codes "crossref")) []
    ++ option_map_or comma_texts (fields (codes "xdata")) []

-- the indices that an entry refers to. A name that points to no entry is skipped, and an index that two names point to occurs
-- twice
abbrev pub references : ByText ℕ → FieldTexts → List ℕ
references names fields = filter_map (by_name.get names) (reference_names fields)
