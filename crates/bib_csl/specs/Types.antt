-- Meaning: words of public contracts.
-- The type of the item of an entry, and groups of these types.
use Rattle.std.specs.Prelude.{ℕ, Bool, true, false, List, if◌then◌else◌, codes, bytes_eq, unwrap_or}
use Rattle.bib_tables.specs.declared.mechanics.EntryType.{EntryType}
use Rattle.bib_tables.specs.declared.mechanics.EntryType.TheVariants.{Article, Book, Booklet, InBook, InCollection, InProceedings, Manual, MastersThesis, PhdThesis, Misc, Proceedings, TechReport, Unpublished, MvBook, BookInBook, SuppBook, Periodical, SuppPeriodical, Collection, MvCollection, SuppCollection, Reference, MvReference, InReference, MvProceedings, Report, Patent, Thesis, Online, Software, Dataset, Set, XData, Unknown}
use Rattle.bib_csl.specs.declared.item_types.ItemType.{ItemType}
use Rattle.bib_csl.specs.declared.item_types.ItemType.TheVariants as item_type
use Rattle.bib_csl.specs.Tables.{item_type_by_own_type}

-- the type of an article, by the text of its field `entrysubtype`
abbrev pub type_of_article : List ℕ → ItemType
type_of_article subtype =
    if bytes_eq subtype (codes "magazine") then item_type.ArticleMagazine
    else if bytes_eq subtype (codes "newspaper") then item_type.ArticleNewspaper
    else item_type.ArticleJournal

-- the type of the item of an entry whose type is unknown and has this name: a type for some other types of BibLaTeX, such as `movie`,
-- and `Document` for any other name
abbrev pub item_type_named : List ℕ → ItemType
item_type_named name = unwrap_or (item_type_by_own_type name) item_type.Document

-- the type of an unpublished work: a talk if the entry has an event
abbrev pub type_of_unpublished : Bool → ItemType
type_of_unpublished has_event = if has_event then item_type.Speech else item_type.Manuscript

-- the type of the item of an entry with this type and this `entrysubtype`; `has_event` says whether the entry has an event
abbrev pub item_type_of : EntryType → List ℕ → Bool → ItemType
item_type_of Article subtype has_event = type_of_article subtype
item_type_of SuppPeriodical subtype has_event = type_of_article subtype
item_type_of Periodical subtype has_event = item_type.Periodical
item_type_of Book subtype has_event = item_type.Book
item_type_of MvBook subtype has_event = item_type.Book
item_type_of Collection subtype has_event = item_type.Book
item_type_of MvCollection subtype has_event = item_type.Book
item_type_of Proceedings subtype has_event = item_type.Book
item_type_of MvProceedings subtype has_event = item_type.Book
item_type_of Reference subtype has_event = item_type.Book
item_type_of MvReference subtype has_event = item_type.Book
item_type_of Manual subtype has_event = item_type.Book
item_type_of InBook subtype has_event = item_type.Chapter
item_type_of BookInBook subtype has_event = item_type.Chapter
item_type_of SuppBook subtype has_event = item_type.Chapter
item_type_of InCollection subtype has_event = item_type.Chapter
item_type_of SuppCollection subtype has_event = item_type.Chapter
item_type_of InReference subtype has_event = item_type.EntryEncyclopedia
item_type_of InProceedings subtype has_event = item_type.PaperConference
item_type_of Booklet subtype has_event = item_type.Pamphlet
item_type_of Thesis subtype has_event = item_type.Thesis
item_type_of MastersThesis subtype has_event = item_type.Thesis
item_type_of PhdThesis subtype has_event = item_type.Thesis
item_type_of Report subtype has_event = item_type.Report
item_type_of TechReport subtype has_event = item_type.Report
item_type_of Patent subtype has_event = item_type.Patent
item_type_of Online subtype has_event = item_type.Webpage
item_type_of Dataset subtype has_event = item_type.Dataset
item_type_of Software subtype has_event = item_type.Software
item_type_of Unpublished subtype has_event = type_of_unpublished has_event
item_type_of Misc subtype has_event = item_type.Document
item_type_of Set subtype has_event = item_type.Document
item_type_of XData subtype has_event = item_type.Document
item_type_of (Unknown name) subtype has_event = item_type_named name

-- whether the item is an article of a journal, a magazine or a newspaper, or a review
abbrev pub is_article : ItemType → Bool
is_article item_type.ArticleJournal = true
is_article item_type.ArticleMagazine = true
is_article item_type.ArticleNewspaper = true
is_article item_type.Review = true
is_article other = false

-- whether the item is a part of a book
abbrev pub is_in_book : ItemType → Bool
is_in_book item_type.Chapter = true
is_in_book item_type.PaperConference = true
is_in_book item_type.EntryEncyclopedia = true
is_in_book other = false

-- whether the item can be a volume of a work of several volumes
abbrev pub is_volume : ItemType → Bool
is_volume item_type.Book = true
is_volume item_type.Collection = true
is_volume item_type.Periodical = true
is_volume other = false

-- whether the field `number` counts the issues of a periodical
abbrev pub counts_issues : ItemType → Bool
counts_issues item_type.ArticleJournal = true
counts_issues item_type.ArticleMagazine = true
counts_issues item_type.ArticleNewspaper = true
counts_issues item_type.Periodical = true
counts_issues item_type.Review = true
counts_issues other = false

-- whether the field `number` counts the works of a series
abbrev pub counts_series : ItemType → Bool
counts_series item_type.Book = true
counts_series item_type.Chapter = true
counts_series item_type.Collection = true
counts_series item_type.PaperConference = true
counts_series item_type.EntryEncyclopedia = true
counts_series item_type.Pamphlet = true
counts_series other = false
