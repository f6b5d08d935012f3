-- Meaning: words of public contracts.
-- The fields that each entry type requires, allows and forbids, as in the Rust crate `biblatex`, which spells `titleaddon` as
-- `titleadddon`. Entries are checked and inherit fields by these lists.
use Rattle.std.specs.Prelude.{ℕ, Bool, true, false, not, ◌&&◌, ◌||◌, List, [], ◌∷◌, ◌++◌, bytes_eq, codes, map}
use Rattle.std.specs.List.{list_any}
use Prim.Native.String.{String}
use denote.Ref.{Bor}
use Rattle.bib_text.specs.Enums.{words}
use Rattle.bib_tables.specs.declared.mechanics.EntryType.{EntryType}
use Rattle.bib_tables.specs.declared.mechanics.EntryType.TheVariants.{Article, Book, Booklet, InBook, InCollection, InProceedings, Manual, MastersThesis, PhdThesis, Misc, Proceedings, TechReport, Unpublished, MvBook, BookInBook, SuppBook, Periodical, SuppPeriodical, Collection, MvCollection, SuppCollection, Reference, MvReference, InReference, MvProceedings, Report, Patent, Thesis, Online, Software, Dataset, Set, XData, Unknown}
use Rattle.bib_tables.specs.declared.mechanics.requirements.AuthorMode.{AuthorMode}
use Rattle.bib_tables.specs.declared.mechanics.requirements.AuthorMode.TheVariants as author
use Rattle.bib_tables.specs.declared.mechanics.requirements.PagesChapterMode.{PagesChapterMode}
use Rattle.bib_tables.specs.declared.mechanics.requirements.PagesChapterMode.TheVariants as pages

-- field names
abbrev pub Names : Type 0
Names = List (List ℕ)

-- the texts of a list of borrowed texts
abbrev pub texts : List (Bor (List ℕ)) → Names
texts = map (λ name. name.now)

-- the field names in a text with single spaces between them
abbrev pub fields : String → Names
fields names = words (codes names)

-- fields that are optional for nearly every type
abbrev pub core : Names
core = fields "titleaddon subtitle url urldate doi eprint eprintclass eprinttype pubstate language addendum"

-- `core` with `note` and `location`
abbrev pub base : Names
base = codes "note" ∷ codes "location" ∷ core

-- `core` with `note`
abbrev pub base_without_location : Names
base_without_location = codes "note" ∷ core

-- the people who annotated or translated a work, or wrote an afterword, a foreword or an introduction to it, and its original language
abbrev pub annotators : Names
annotators = fields "annotator commentator translator origlanguage afterword foreword introduction"

-- the title of a work in several volumes
abbrev pub main_title : Names
main_title = fields "maintitle mainsubtitle maintitleaddon"

-- the subtitle and the title addon of the book that contains a work
abbrev pub book_title : Names
book_title = fields "booksubtitle booktitleaddon"

-- The required and the optional fields of a type, and whether it requires a date. Also its rules for `author` and `editor`,
-- and for `pages` and `chapter`.
pub record Rules : Type 0 where
  pub required : Names
  pub optional : Names
  pub author : AuthorMode
  pub pages : PagesChapterMode
  pub needs_date : Bool

-- the rules with these parts, in the order of `Rules`
abbrev pub rules : Names → Names → AuthorMode → PagesChapterMode → Bool → Rules
rules required optional author pages needs_date =
    record { required = required; optional = optional; author = author; pages = pages; needs_date = needs_date }

-- the rules of `Article` and `SuppPeriodical`
abbrev pub article_rules : Rules
article_rules =
    rules (fields "title journaltitle")
    (base_without_location
    ++ fields
    "number series version volume annotator commentator translator origlanguage journalsubtitle issue issuetitle issuesubtitle eid issn")
    author.AuthorRequiredEditorOptional pages.PagesOptional true

-- the rules of `InBook`, `BookInBook` and `SuppBook`
abbrev pub in_book_rules : Rules
in_book_rules =
    rules (fields "title publisher booktitle")
    (base ++ annotators ++ main_title ++ book_title ++ fields "bookauthor volume volumes part type series number edition isbn")
    author.OneRequired pages.OneRequired true

-- the rules of `InCollection`, `SuppCollection` and `InReference`
abbrev pub in_collection_rules : Rules
in_collection_rules =
    rules (fields "title publisher booktitle")
    (base ++ annotators ++ main_title ++ book_title ++ fields "volume volumes part type series number edition isbn")
    author.BothRequired pages.BothOptional true

-- the rules of `MastersThesis` and `PhdThesis`
abbrev pub masters_thesis_rules : Rules
masters_thesis_rules =
    rules (fields "title school")
    (base ++ fields "type")
    author.AuthorRequired pages.None true

-- the rules of `Misc` and `Software`
abbrev pub misc_rules : Rules
misc_rules =
    rules (fields "title")
    (base_without_location ++ fields "howpublished organization type")
    author.OneRequired pages.None false

-- the rules of `Collection` and `Reference`
abbrev pub collection_rules : Rules
collection_rules =
    rules (fields "title")
    (base ++ annotators ++ main_title ++ fields "edition number series part volume volumes isbn publisher pagetotal")
    author.EditorRequiredAuthorForbidden pages.BothOptional true

-- the rules of `MvCollection`, `MvReference` and unknown types
abbrev pub mv_collection_rules : Rules
mv_collection_rules =
    rules (fields "title")
    (base ++ annotators ++ fields "edition number series volumes isbn publisher pagetotal")
    author.EditorRequiredAuthorForbidden pages.BothForbidden true

-- the rules of each type; an unknown type has those of a collection in several volumes
abbrev pub rules_of : EntryType → Rules
rules_of Article = article_rules
rules_of Book =
    rules (fields "title publisher")
    (base ++ annotators ++ main_title ++ fields "edition number series part volume volumes isbn pagetotal")
    author.OneRequired pages.BothOptional true
rules_of Booklet =
    rules (fields "title")
    (base ++ fields "howpublished type pagetotal")
    author.OneRequired pages.BothOptional false
rules_of InBook = in_book_rules
rules_of InCollection = in_collection_rules
rules_of InProceedings =
    rules (fields "title booktitle")
    (base ++ main_title ++ book_title
    ++ fields
    "number organization series volume volumes part publisher eventtitle eventsubtitle eventtitleaddon venue isbn")
    author.AuthorRequiredEditorOptional pages.BothOptional true
rules_of Manual =
    rules (fields "title")
    (base ++ fields "edition organization series version isbn publisher type pagetotal")
    author.OneRequired pages.BothOptional false
rules_of MastersThesis = masters_thesis_rules
rules_of PhdThesis = masters_thesis_rules
rules_of Misc = misc_rules
rules_of Proceedings =
    rules (fields "title")
    (base ++ main_title ++ fields "number organization series volume volumes part publisher isbn pagetotal")
    author.EditorRequiredAuthorForbidden pages.BothOptional true
rules_of TechReport =
    rules (fields "title institution")
    (base ++ fields "number type")
    author.AuthorRequired pages.None true
rules_of Unpublished =
    rules (fields "title note")
    (core ++ fields "isbn howpublished")
    author.AuthorRequired pages.None false
rules_of MvBook =
    rules (fields "title")
    (base ++ annotators ++ fields "edition number series volumes isbn publisher pagetotal")
    author.AuthorRequiredEditorOptional pages.BothOptional true
rules_of BookInBook = in_book_rules
rules_of SuppBook = in_book_rules
rules_of Periodical =
    rules (fields "title")
    (base ++ fields "issue issuetitle issuesubtitle number series volume issn")
    author.EditorRequiredAuthorForbidden pages.None true
rules_of SuppPeriodical = article_rules
rules_of Collection = collection_rules
rules_of MvCollection = mv_collection_rules
rules_of SuppCollection = in_collection_rules
rules_of Reference = collection_rules
rules_of MvReference = mv_collection_rules
rules_of InReference = in_collection_rules
rules_of MvProceedings =
    rules (fields "title")
    (base ++ fields "number series volumes publisher organization pagetotal")
    author.EditorRequiredAuthorForbidden pages.BothForbidden true
rules_of Report =
    rules (fields "title institution type")
    (base ++ fields "number version isrn pagetotal")
    author.AuthorRequired pages.BothOptional true
rules_of Patent =
    rules (fields "title number")
    (base ++ fields "holder type")
    author.AuthorRequired pages.None true
rules_of Thesis =
    rules (fields "title institution type")
    (base ++ fields "isbn pagetotal")
    author.AuthorRequired pages.BothOptional true
rules_of Online =
    rules (fields "title url")
    (fields "note titleaddon subtitle urldate pubstate language addendum organization")
    author.OneRequired pages.None true
rules_of Software = misc_rules
rules_of Dataset =
    rules (fields "title")
    (base ++ fields "edition type series number version organization publisher")
    author.OneRequired pages.None true
rules_of Set = rules (fields "entryset") [] author.NoneRequired pages.None false
rules_of XData = rules [] [] author.NoneRequired pages.None false
rules_of (Unknown name) = mv_collection_rules

-- the forbidden fields of a type, except for those that its rules for authors and pages forbid
abbrev pub forbidden_fields_of : EntryType → Names
forbidden_fields_of InBook = fields "pagetotal"
forbidden_fields_of InCollection = fields "pagetotal"
forbidden_fields_of InProceedings = fields "pagetotal"
forbidden_fields_of BookInBook = fields "pagetotal"
forbidden_fields_of SuppBook = fields "pagetotal"
forbidden_fields_of SuppCollection = fields "pagetotal"
forbidden_fields_of InReference = fields "pagetotal"
forbidden_fields_of MvBook = fields "maintitle mainsubtitle maintitleaddon part volume"
forbidden_fields_of MvCollection = fields "maintitle mainsubtitle maintitleaddon part volume"
forbidden_fields_of MvReference = fields "maintitle mainsubtitle maintitleaddon part volume"
forbidden_fields_of MvProceedings = fields "maintitle mainsubtitle maintitleaddon part volume"
forbidden_fields_of (Unknown name) = fields "maintitle mainsubtitle maintitleaddon part volume"
forbidden_fields_of _ = []

-- those of the fields `author` and `editor` that a rule requires or allows; none for `NoneRequired`
abbrev pub author_names : AuthorMode → Names
author_names author.NoneRequired = []
author_names author.OneRequired = fields "author editor"
author_names author.BothRequired = fields "author editor"
author_names author.AuthorRequired = fields "author"
author_names author.AuthorRequiredEditorOptional = fields "author editor"
author_names author.EditorRequiredAuthorForbidden = fields "editor"

-- those of the fields `pages` and `chapter` that a rule requires or allows; none for `None`
abbrev pub page_names : PagesChapterMode → Names
page_names pages.None = []
page_names pages.OneRequired = fields "pages chapter"
page_names pages.BothOptional = fields "pages chapter"
page_names pages.BothForbidden = []
page_names pages.PagesOptional = fields "pages"
page_names pages.PagesRequired = fields "pages"

-- all fields that the rules of a type require or allow, except a date. The fields for pages, chapters, authors and editors are included
abbrev pub fields_of_rules : Rules → Names
fields_of_rules asked = asked.required ++ asked.optional ++ page_names asked.pages ++ author_names asked.author

-- these fields for the rules of a type: an entry of the type can inherit them, unless they are in `never_inherited`
abbrev pub inheritable : EntryType → Names
inheritable type = fields_of_rules (rules_of type)

-- the fields that no entry inherits
abbrev pub never_inherited : Names
never_inherited = fields "title addendum note"

-- whether entries of a type are only containers of fields
abbrev pub is_container : EntryType → Bool
is_container XData = true
is_container _ = false

-- whether `name` is one of `names`
abbrev pub is_one_of : Names → List ℕ → Bool
is_one_of names name = list_any (λ each. bytes_eq each name) names

-- Whether an entry of a type that lacks the field `name` inherits it from an entry that it refers to; dates have rules of their
-- own. No entry inherits the fields of `never_inherited`. A container inherits all other fields, and any other entry those
-- inheritable for its type.
abbrev pub inherits : EntryType → List ℕ → Bool
inherits type name = not (is_one_of never_inherited name) && (is_container type || is_one_of (inheritable type) name)
