-- Meaning: words of public contracts.
-- Pagination schemes: the units that the numbers in `pages` or in a citation count, from the BibLaTeX manual's list of values for
-- `pagination`.
use Rattle.std.specs.Prelude.{ℕ, List, [], ◌∷◌, Option, codes}
use Rattle.bib_tables.specs.declared.types.Pagination.{Pagination}
use Rattle.bib_tables.specs.declared.types.Pagination.TheVariants.{Page, Column, Line, Verse, Section, Paragraph}
use Rattle.bib_text.specs.Enums.{value_named, by_name}

-- the name of a scheme
abbrev pub pagination_name : Pagination → List ℕ
pagination_name Page = codes "page"
pagination_name Column = codes "column"
pagination_name Line = codes "line"
pagination_name Verse = codes "verse"
pagination_name Section = codes "section"
pagination_name Paragraph = codes "paragraph"

-- the table of the schemes and their names
abbrev pub paginations : List (List ℕ × Pagination)
paginations = by_name pagination_name (Page ∷ Column ∷ Line ∷ Verse ∷ Section ∷ Paragraph ∷ [])

-- the scheme with exactly this name, or `None`
abbrev pub pagination_named : List ℕ → Option Pagination
pagination_named = value_named paginations
