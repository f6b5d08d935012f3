-- Meaning: words of public contracts.
-- The entry types and the names of fields of the two dialects, as the Rust crate `biblatex` maps them.
use Rattle.std.specs.Prelude.{ℕ, List, [], ◌∷◌, codes, unwrap_or}
use Rattle.bib_text.specs.Enums.{value_named}
use Rattle.bib_tables.specs.EntryType.{biblatex_type, bibtex_type}
use Rattle.bib_tables.specs.declared.dialects.Dialect.{Dialect}
use Rattle.bib_tables.specs.declared.dialects.Dialect.TheVariants.{Biblatex, Bibtex}
use Rattle.bib_tables.specs.declared.mechanics.EntryType.{EntryType}
use Rattle.bib_tables.specs.declared.mechanics.EntryType.TheVariants.{Thesis, MastersThesis, PhdThesis}

-- the entry type that a type is mapped to in a dialect
abbrev pub kind_in : Dialect → EntryType → EntryType
kind_in Biblatex kind = biblatex_type kind
kind_in Bibtex kind = bibtex_type kind

-- BibLaTeX's names of some fields of BibTeX
abbrev pub biblatex_names : List (List ℕ × List ℕ)
biblatex_names = (codes "journal", codes "journaltitle") ∷ (codes "address", codes "location") ∷ (codes "school", codes "institution") ∷ []

-- BibLaTeX's name of a field
abbrev pub biblatex_name : List ℕ → List ℕ
biblatex_name name = unwrap_or (value_named biblatex_names name) name

-- BibTeX's names of some fields of BibLaTeX
abbrev pub bibtex_names : List (List ℕ × List ℕ)
bibtex_names = (codes "journaltitle", codes "journal") ∷ (codes "location", codes "address") ∷ []

-- BibTeX's names of fields of a thesis: also `school` for `institution`
abbrev pub thesis_names : List (List ℕ × List ℕ)
thesis_names = (codes "institution", codes "school") ∷ bibtex_names

-- BibTeX's names of some fields of an entry of this type
abbrev pub names_in : EntryType → List (List ℕ × List ℕ)
names_in Thesis = thesis_names
names_in MastersThesis = thesis_names
names_in PhdThesis = thesis_names
names_in kind = bibtex_names

-- BibTeX's name of a field of an entry of this type
abbrev pub bibtex_name : EntryType → List ℕ → List ℕ
bibtex_name kind name = unwrap_or (value_named (names_in kind) name) name
