-- Meaning: words of public contracts.
-- Entry types, from the lists of BibTeX and of the BibLaTeX manual.
use Rattle.std.specs.Prelude.{ℕ, Bool, true, false, List, [], ◌∷◌, ◌++◌, Option, codes, map, unwrap_or}
use Rattle.std.specs.Char.{to_ascii_lowercase}
use Rattle.bib_text.specs.Enums.{value_named, by_name}
use Rattle.bib_tables.specs.declared.mechanics.EntryType.{EntryType}
use Rattle.bib_tables.specs.declared.mechanics.EntryType.TheVariants.{Article, Book, Booklet, InBook, InCollection, InProceedings, Manual, MastersThesis, PhdThesis, Misc, Proceedings, TechReport, Unpublished, MvBook, BookInBook, SuppBook, Periodical, SuppPeriodical, Collection, MvCollection, SuppCollection, Reference, MvReference, InReference, MvProceedings, Report, Patent, Thesis, Online, Software, Dataset, Set, XData, Unknown}

-- the name by which a type is written; `unknown` for an unknown type, whatever its name
abbrev pub entry_type_name : EntryType → List ℕ
entry_type_name Article = codes "article"
entry_type_name Book = codes "book"
entry_type_name Booklet = codes "booklet"
entry_type_name InBook = codes "inbook"
entry_type_name InCollection = codes "incollection"
entry_type_name InProceedings = codes "inproceedings"
entry_type_name Manual = codes "manual"
entry_type_name MastersThesis = codes "mastersthesis"
entry_type_name PhdThesis = codes "phdthesis"
entry_type_name Misc = codes "misc"
entry_type_name Proceedings = codes "proceedings"
entry_type_name TechReport = codes "techreport"
entry_type_name Unpublished = codes "unpublished"
entry_type_name MvBook = codes "mvbook"
entry_type_name BookInBook = codes "bookinbook"
entry_type_name SuppBook = codes "suppbook"
entry_type_name Periodical = codes "periodical"
entry_type_name SuppPeriodical = codes "suppperiodical"
entry_type_name Collection = codes "collection"
entry_type_name MvCollection = codes "mvcollection"
entry_type_name SuppCollection = codes "suppcollection"
entry_type_name Reference = codes "reference"
entry_type_name MvReference = codes "mvreference"
entry_type_name InReference = codes "inreference"
entry_type_name MvProceedings = codes "mvproceedings"
entry_type_name Report = codes "report"
entry_type_name Patent = codes "patent"
entry_type_name Thesis = codes "thesis"
entry_type_name Online = codes "online"
entry_type_name Software = codes "software"
entry_type_name Dataset = codes "dataset"
entry_type_name Set = codes "set"
entry_type_name XData = codes "xdata"
entry_type_name (Unknown name) = codes "unknown"

-- the table of the named types and their names
abbrev pub type_names : List (List ℕ × EntryType)
type_names = by_name entry_type_name
    (Article ∷ Book ∷ Booklet ∷ InBook ∷ InCollection ∷ InProceedings ∷ Manual ∷ MastersThesis ∷ PhdThesis ∷
    Misc ∷ Proceedings ∷ TechReport ∷ Unpublished ∷ MvBook ∷ BookInBook ∷ SuppBook ∷ Periodical ∷
    SuppPeriodical ∷ Collection ∷ MvCollection ∷ SuppCollection ∷ Reference ∷ MvReference ∷ InReference ∷
    MvProceedings ∷ Report ∷ Patent ∷ Thesis ∷ Online ∷ Software ∷ Dataset ∷ Set ∷ XData ∷ [])

-- the aliases that BibLaTeX has for some named types
abbrev pub alias_names : List (List ℕ × EntryType)
alias_names = (codes "conference", InProceedings) ∷ (codes "electronic", Online) ∷ (codes "www", Online) ∷ []

-- the named type with exactly this name, or `None`
unfoldable pub entry_type_named : List ℕ → Option EntryType
entry_type_named = value_named type_names

-- the named type with exactly this name or alias, or `None`
unfoldable pub entry_type_by_name_or_alias : List ℕ → Option EntryType
entry_type_by_name_or_alias = value_named (type_names ++ alias_names)

-- The type that `name` means in a file. It is the named type with this name or alias in any ASCII case. Otherwise it is the
-- unknown type with the name in ASCII lowercase.
unfoldable pub entry_type_of : List ℕ → EntryType
entry_type_of name = unwrap_or (entry_type_by_name_or_alias (map to_ascii_lowercase name)) (Unknown (map to_ascii_lowercase name))

-- the type itself if it is named, and `Misc` if it is unknown
abbrev pub known_type : EntryType → EntryType
known_type (Unknown name) = Misc
known_type type = type

-- the type that BibLaTeX has for a type
abbrev pub biblatex_type : EntryType → EntryType
biblatex_type MastersThesis = Thesis
biblatex_type PhdThesis = Thesis
biblatex_type TechReport = Report
biblatex_type type = known_type type

-- the type that BibTeX has for a type; `Misc` if it has none
abbrev pub bibtex_type : EntryType → EntryType
bibtex_type MvBook = Book
bibtex_type BookInBook = InBook
bibtex_type SuppBook = InBook
bibtex_type Periodical = Misc
bibtex_type SuppPeriodical = Article
bibtex_type Collection = Proceedings
bibtex_type MvCollection = Proceedings
bibtex_type SuppCollection = InCollection
bibtex_type Reference = Misc
bibtex_type MvReference = Misc
bibtex_type InReference = InCollection
bibtex_type MvProceedings = Proceedings
bibtex_type Report = TechReport
bibtex_type Patent = Misc
bibtex_type Thesis = PhdThesis
bibtex_type Online = Misc
bibtex_type Software = Misc
bibtex_type Dataset = Misc
bibtex_type Set = Misc
bibtex_type XData = Misc
bibtex_type type = known_type type

-- the types whose title is the `maintitle` of their parts
abbrev pub is_multi_volume : EntryType → Bool
is_multi_volume MvBook = true
is_multi_volume MvCollection = true
is_multi_volume MvReference = true
is_multi_volume MvProceedings = true
is_multi_volume _ = false

-- the types whose title is the `booktitle` of their parts
abbrev pub is_collection : EntryType → Bool
is_collection Book = true
is_collection Collection = true
is_collection Periodical = true
is_collection Reference = true
is_collection Proceedings = true
is_collection _ = false
