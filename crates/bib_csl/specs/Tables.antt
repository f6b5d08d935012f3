-- Meaning: words of public contracts.
-- The tables of types of items and of their variables. Each type and each variable has one row, for both directions: entries as items, and
-- items as entries.
use Rattle.std.specs.Prelude.{ℕ, Bool, ◌||◌, List, [], ◌∷◌, Option, bytes_eq, codes, find}
use Rattle.std.specs.List.{list_any}
use Prim.Native.String.{String}
use Rattle.bib_text.specs.Enums.{words}
use Rattle.bib_csl.specs.declared.variables.Form.{Form}
use Rattle.bib_csl.specs.declared.variables.Form.TheVariants.{Tagged, Listed, Plain, Names, Date}
use Rattle.bib_csl.specs.declared.item_types.ItemType.{ItemType}
use Rattle.bib_csl.specs.declared.item_types.ItemType.TheVariants as item_type
use Rattle.bib_csl.specs.declared.variables.Variable.{Variable}
use Rattle.bib_csl.specs.declared.variables.Variable.TheVariants as variable

-- a type of items: CSL's name, other types of CSL that are read as this one, the type of the entry that an item of this type becomes, and
-- the types of entries that `EntryType` lacks and that become an item of this type
pub record ItemTypeRow : Type 0 where
  pub name : List ℕ
  pub others : List (List ℕ)
  pub entry_type : List ℕ
  pub own : List (List ℕ)

-- a row of the table of types; spaces separate names
abbrev pub type_row : String → String → String → String → ItemTypeRow
type_row name others entry_type own =
    record { name = codes name; others = words (codes others); entry_type = codes entry_type; own = words (codes own) }

-- the table of types
abbrev pub item_type_row : ItemType → ItemTypeRow
item_type_row item_type.ArticleJournal = type_row "article-journal" "article" "article" ""
item_type_row item_type.ArticleMagazine = type_row "article-magazine" "" "article" ""
item_type_row item_type.ArticleNewspaper = type_row "article-newspaper" "" "article" ""
item_type_row item_type.Book = type_row "book" "classic" "book" ""
item_type_row item_type.Chapter = type_row "chapter" "" "incollection" ""
item_type_row item_type.Collection = type_row "collection" "" "collection" ""
item_type_row item_type.Dataset = type_row "dataset" "" "dataset" ""
item_type_row item_type.Document = type_row "document" "" "misc" ""
item_type_row item_type.EntryEncyclopedia = type_row "entry-encyclopedia" "entry entry-dictionary" "inreference" ""
item_type_row item_type.Graphic = type_row "graphic" "" "" "artwork image"
item_type_row item_type.LegalCase = type_row "legal_case" "" "" "jurisdiction"
item_type_row item_type.Legislation = type_row "legislation" "" "" "legislation"
item_type_row item_type.Manuscript = type_row "manuscript" "" "unpublished" ""
item_type_row item_type.MotionPicture = type_row "motion_picture" "" "" "movie video"
item_type_row item_type.Pamphlet = type_row "pamphlet" "" "booklet" ""
item_type_row item_type.PaperConference = type_row "paper-conference" "" "inproceedings" ""
item_type_row item_type.Patent = type_row "patent" "" "patent" ""
item_type_row item_type.Performance = type_row "performance" "" "" "performance"
item_type_row item_type.Periodical = type_row "periodical" "" "periodical" ""
item_type_row item_type.PersonalCommunication = type_row "personal_communication" "" "" "letter"
item_type_row item_type.Report = type_row "report" "" "report" ""
item_type_row item_type.Review = type_row "review" "review-book" "" "review"
item_type_row item_type.Software = type_row "software" "" "software" ""
item_type_row item_type.Song = type_row "song" "" "" "music audio"
item_type_row item_type.Speech = type_row "speech" "" "unpublished" ""
item_type_row item_type.Standard = type_row "standard" "" "" "standard"
item_type_row item_type.Thesis = type_row "thesis" "" "thesis" ""
item_type_row item_type.Treaty = type_row "treaty" "" "" "legal"
item_type_row item_type.Webpage = type_row "webpage" "post post-weblog" "online" ""

-- the types, in the order of the table
abbrev pub item_types : List ItemType
item_types =
    item_type.ArticleJournal ∷ item_type.ArticleMagazine ∷ item_type.ArticleNewspaper ∷ item_type.Book ∷ item_type.Chapter ∷
    item_type.Collection ∷ item_type.Dataset ∷ item_type.Document ∷ item_type.EntryEncyclopedia ∷ item_type.Graphic ∷
    item_type.LegalCase ∷ item_type.Legislation ∷ item_type.Manuscript ∷ item_type.MotionPicture ∷ item_type.Pamphlet ∷
    item_type.PaperConference ∷ item_type.Patent ∷ item_type.Performance ∷ item_type.Periodical ∷ item_type.PersonalCommunication ∷
    item_type.Report ∷ item_type.Review ∷ item_type.Software ∷ item_type.Song ∷ item_type.Speech ∷
    item_type.Standard ∷ item_type.Thesis ∷ item_type.Treaty ∷ item_type.Webpage ∷ []

-- the name of a type
abbrev pub item_type_name : ItemType → List ℕ
item_type_name kind = (item_type_row kind).name

-- the first text of a list, or the other one if the list is empty
abbrev pub first_or : List (List ℕ) → List ℕ → List ℕ
first_or [] other = other
first_or (first ∷ rest) other = first

-- the type of the entry that an item of this type becomes: a type that `EntryType` lacks, if there is one
abbrev pub written_entry_type : ItemType → List ℕ
written_entry_type kind = first_or (item_type_row kind).own (item_type_row kind).entry_type

-- whether a type has this name, or a type of CSL with this name is read as it
abbrev pub is_type_named : List ℕ → ItemType → Bool
is_type_named name kind = bytes_eq (item_type_row kind).name name || list_any (λ other. bytes_eq other name) (item_type_row kind).others

-- the type with exactly this name, or the type as which a type of CSL with this name is read, or `None`
unfoldable pub item_type_by_name : List ℕ → Option ItemType
item_type_by_name name = find (is_type_named name) item_types

-- whether an entry of the type with this name, which `EntryType` lacks, becomes an item of this type
abbrev pub is_type_of_own : List ℕ → ItemType → Bool
is_type_of_own name kind = list_any (λ own. bytes_eq own name) (item_type_row kind).own

-- the type of the item of an entry whose type `EntryType` lacks and has exactly this name, or `None`
unfoldable pub item_type_by_own_type : List ℕ → Option ItemType
item_type_by_own_type name = find (is_type_of_own name) item_types

-- a variable: CSL's name, the form of its value, and its field; the field is empty if it depends on the item, or if the variable has none
pub record VariableRow : Type 0 where
  pub name : List ℕ
  pub form : Form
  pub field : List ℕ

-- a row of the table of variables
abbrev pub variable_cells : String → Form → String → VariableRow
variable_cells name form field = record { name = codes name; form = form; field = codes field }

-- the table of variables
abbrev pub variable_row : Variable → VariableRow
variable_row variable.Title = variable_cells "title" Tagged ""
variable_row variable.TitleShort = variable_cells "title-short" Tagged "shorttitle"
variable_row variable.VolumeTitle = variable_cells "volume-title" Tagged ""
variable_row variable.ContainerTitle = variable_cells "container-title" Tagged ""
variable_row variable.ContainerTitleShort = variable_cells "container-title-short" Tagged "shortjournal"
variable_row variable.CollectionTitle = variable_cells "collection-title" Tagged "series"
variable_row variable.OriginalTitle = variable_cells "original-title" Tagged "origtitle"
variable_row variable.Event = variable_cells "event" Tagged "eventtitle"
variable_row variable.EventTitle = variable_cells "event-title" Tagged "eventtitle"
variable_row variable.Publisher = variable_cells "publisher" Listed ""
variable_row variable.PublisherPlace = variable_cells "publisher-place" Listed "location"
variable_row variable.OriginalPublisher = variable_cells "original-publisher" Listed "origpublisher"
variable_row variable.OriginalPublisherPlace = variable_cells "original-publisher-place" Listed "origlocation"
variable_row variable.EventPlace = variable_cells "event-place" Tagged "venue"
variable_row variable.Genre = variable_cells "genre" Tagged "type"
variable_row variable.Volume = variable_cells "volume" Plain "volume"
variable_row variable.NumberOfVolumes = variable_cells "number-of-volumes" Plain "volumes"
variable_row variable.PartNumber = variable_cells "part-number" Plain "part"
variable_row variable.Issue = variable_cells "issue" Plain ""
variable_row variable.Number = variable_cells "number" Plain ""
variable_row variable.CollectionNumber = variable_cells "collection-number" Plain ""
variable_row variable.Edition = variable_cells "edition" Plain "edition"
variable_row variable.ChapterNumber = variable_cells "chapter-number" Plain "chapter"
variable_row variable.Page = variable_cells "page" Plain "pages"
variable_row variable.NumberOfPages = variable_cells "number-of-pages" Plain "pagetotal"
variable_row variable.Version = variable_cells "version" Plain "version"
variable_row variable.Doi = variable_cells "DOI" Plain "doi"
variable_row variable.Url = variable_cells "URL" Plain "url"
variable_row variable.Pmid = variable_cells "PMID" Plain "eprint"
variable_row variable.Isbn = variable_cells "ISBN" Plain "isbn"
variable_row variable.Issn = variable_cells "ISSN" Plain "issn"
variable_row variable.Archive = variable_cells "archive" Plain "eprinttype"
variable_row variable.ArchiveLocation = variable_cells "archive_location" Plain "eprint"
variable_row variable.CallNumber = variable_cells "call-number" Plain "library"
variable_row variable.Abstract = variable_cells "abstract" Tagged "abstract"
variable_row variable.Annote = variable_cells "annote" Tagged "annotation"
variable_row variable.Note = variable_cells "note" Tagged "note"
variable_row variable.Status = variable_cells "status" Plain "pubstate"
variable_row variable.Keyword = variable_cells "keyword" Plain "keywords"
variable_row variable.Language = variable_cells "language" Plain ""
variable_row variable.Author = variable_cells "author" Names "author"
variable_row variable.Editor = variable_cells "editor" Names "editor"
variable_row variable.Compiler = variable_cells "compiler" Names "editora"
variable_row variable.Director = variable_cells "director" Names "editorb"
variable_row variable.Organizer = variable_cells "organizer" Names "editorc"
variable_row variable.Translator = variable_cells "translator" Names "translator"
variable_row variable.ContainerAuthor = variable_cells "container-author" Names "bookauthor"
variable_row variable.Chair = variable_cells "chair" Names ""
variable_row variable.CollectionEditor = variable_cells "collection-editor" Names ""
variable_row variable.Composer = variable_cells "composer" Names ""
variable_row variable.Contributor = variable_cells "contributor" Names ""
variable_row variable.Curator = variable_cells "curator" Names ""
variable_row variable.EditorialDirector = variable_cells "editorial-director" Names ""
variable_row variable.ExecutiveProducer = variable_cells "executive-producer" Names ""
variable_row variable.Guest = variable_cells "guest" Names ""
variable_row variable.Host = variable_cells "host" Names ""
variable_row variable.Illustrator = variable_cells "illustrator" Names ""
variable_row variable.Interviewer = variable_cells "interviewer" Names ""
variable_row variable.Narrator = variable_cells "narrator" Names ""
variable_row variable.OriginalAuthor = variable_cells "original-author" Names ""
variable_row variable.Performer = variable_cells "performer" Names ""
variable_row variable.Producer = variable_cells "producer" Names ""
variable_row variable.Recipient = variable_cells "recipient" Names ""
variable_row variable.ReviewedAuthor = variable_cells "reviewed-author" Names ""
variable_row variable.ScriptWriter = variable_cells "script-writer" Names ""
variable_row variable.SeriesCreator = variable_cells "series-creator" Names ""
variable_row variable.Issued = variable_cells "issued" Date "date"
variable_row variable.Accessed = variable_cells "accessed" Date "urldate"
variable_row variable.EventDate = variable_cells "event-date" Date "eventdate"
variable_row variable.OriginalDate = variable_cells "original-date" Date "origdate"
variable_row variable.AvailableDate = variable_cells "available-date" Date ""
variable_row variable.Submitted = variable_cells "submitted" Date ""

-- the variables, in the order of the table
abbrev pub csl_variables : List Variable
csl_variables =
    variable.Title ∷ variable.TitleShort ∷ variable.VolumeTitle ∷ variable.ContainerTitle ∷ variable.ContainerTitleShort ∷
    variable.CollectionTitle ∷ variable.OriginalTitle ∷ variable.Event ∷ variable.EventTitle ∷ variable.Publisher ∷
    variable.PublisherPlace ∷ variable.OriginalPublisher ∷ variable.OriginalPublisherPlace ∷ variable.EventPlace ∷ variable.Genre ∷
    variable.Volume ∷ variable.NumberOfVolumes ∷ variable.PartNumber ∷ variable.Issue ∷ variable.Number ∷
    variable.CollectionNumber ∷ variable.Edition ∷ variable.ChapterNumber ∷ variable.Page ∷ variable.NumberOfPages ∷
    variable.Version ∷ variable.Doi ∷ variable.Url ∷ variable.Pmid ∷ variable.Isbn ∷
    variable.Issn ∷ variable.Archive ∷ variable.ArchiveLocation ∷ variable.CallNumber ∷ variable.Abstract ∷
    variable.Annote ∷ variable.Note ∷ variable.Status ∷ variable.Keyword ∷ variable.Language ∷
    variable.Author ∷ variable.Editor ∷ variable.Compiler ∷ variable.Director ∷ variable.Organizer ∷
    variable.Translator ∷ variable.ContainerAuthor ∷ variable.Chair ∷ variable.CollectionEditor ∷ variable.Composer ∷
    variable.Contributor ∷ variable.Curator ∷ variable.EditorialDirector ∷ variable.ExecutiveProducer ∷ variable.Guest ∷
    variable.Host ∷ variable.Illustrator ∷ variable.Interviewer ∷ variable.Narrator ∷ variable.OriginalAuthor ∷
    variable.Performer ∷ variable.Producer ∷ variable.Recipient ∷ variable.ReviewedAuthor ∷ variable.ScriptWriter ∷
    variable.SeriesCreator ∷ variable.Issued ∷ variable.Accessed ∷ variable.EventDate ∷ variable.OriginalDate ∷
    variable.AvailableDate ∷ variable.Submitted ∷ []

-- the name of a variable
abbrev pub variable_name : Variable → List ℕ
variable_name v = (variable_row v).name

-- the form of the value of a variable
abbrev pub variable_form : Variable → Form
variable_form v = (variable_row v).form

-- the field of a variable, or nothing if it depends on the item, or if the variable has none
abbrev pub field_in_table : Variable → List ℕ
field_in_table v = (variable_row v).field

-- the variable with exactly this name, or `None`
unfoldable pub variable_named : List ℕ → Option Variable
variable_named name = find (λ v. bytes_eq (variable_name v) name) csl_variables
