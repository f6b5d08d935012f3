-- Meaning: words of public contracts.
-- Types of BibTeX that are other types of BibLaTeX with a value of the field `type`, as Biber reads them. A Master's thesis is a
-- thesis with `type = {mathesis}` (BibLaTeX manual, "Type Aliases").
use Rattle.std.specs.Prelude.{ℕ, ◌-◌, Bool, false, ◌==◌, ◌||◌, if◌then◌else◌, List, [], ◌∷◌, codes, drop, length, take, Option, Some, None}
use Rattle.std.specs.Char.{is_ascii_whitespace}
use Rattle.std.specs.List.{prefix_len, suffix_len}
use Rattle.bib_text.specs.Characters as char
use Rattle.bib_text.specs.Enums.{value_named}
use Rattle.bib_tables.specs.declared.mechanics.EntryType.{EntryType}
use Rattle.bib_tables.specs.declared.mechanics.EntryType.TheVariants.{MastersThesis, PhdThesis, Report, TechReport, Thesis}
use Rattle.bib_chunks.specs.Formatted.{is_break}
use Rattle.edit_entries.specs.Changes.{NewField, braced_field}

-- the value of `type` that BibLaTeX uses for a type of BibTeX that it merges with others
abbrev pub type_value : EntryType → Option (List ℕ)
type_value MastersThesis = Some (codes "mathesis")
type_value PhdThesis = Some (codes "phdthesis")
type_value TechReport = Some (codes "techreport")
type_value kind = None

-- a type of BibTeX, and the text that its standard styles print for it
pub record PrintedType : Type 0 where
  pub name : List ℕ
  pub text : List ℕ

-- the types of BibTeX that values of `type` mean in a thesis
abbrev pub theses_by_value : List (List ℕ × PrintedType)
theses_by_value =
    (codes "mathesis", record { name = codes "mastersthesis"; text = codes "Master's thesis" })
    ∷ (codes "phdthesis", record { name = codes "phdthesis"; text = codes "PhD thesis" }) ∷ []

-- the type of BibTeX that a value of `type` means in a report
abbrev pub reports_by_value : List (List ℕ × PrintedType)
reports_by_value = (codes "techreport", record { name = codes "techreport"; text = codes "Technical Report" }) ∷ []

-- the types of BibTeX that values of `type` mean in entries of a type
abbrev pub types_by_value : EntryType → List (List ℕ × PrintedType)
types_by_value Thesis = theses_by_value
types_by_value MastersThesis = theses_by_value
types_by_value PhdThesis = theses_by_value
types_by_value Report = reports_by_value
types_by_value TechReport = reports_by_value
types_by_value kind = []

-- whether a tab occurs in the first line of a text
abbrev pub has_tab_in_first_line : List ℕ → Bool
has_tab_in_first_line [] = false
has_tab_in_first_line (b ∷ bs) = if is_break b then false else b == char.tab || has_tab_in_first_line bs

-- a text without the ASCII white space before it
abbrev pub without_white_before : List ℕ → List ℕ
without_white_before text = drop (prefix_len is_ascii_whitespace text) text

-- a text without the ASCII white space after it
abbrev pub without_white_after : List ℕ → List ℕ
without_white_after text = take (length text - suffix_len is_ascii_whitespace text) text

-- The key that BibLaTeX finds in the text of a field `type`. Biber removes spaces and line ends at both ends of a text. In lines after the
-- first one, it reads a tab as a space. It keeps a tab in the first line, and then BibLaTeX finds no key.
abbrev pub key_in : List ℕ → List ℕ
key_in text = if has_tab_in_first_line text then text else without_white_after (without_white_before text)

-- the type of BibTeX that a type and a key in `type` mean
abbrev pub type_by_key : EntryType → List ℕ → Option PrintedType
type_by_key kind key = value_named (types_by_value kind) key

-- the type of BibTeX that a type and the text of `type` mean
abbrev pub type_by_value : EntryType → Option (List ℕ) → Option PrintedType
type_by_value kind None = None
type_by_value kind (Some value) = type_by_key kind (key_in value)

-- a field `type` with a text
abbrev pub type_field : List ℕ → NewField
type_field text = braced_field (codes "type") text
