-- Meaning: words of public contracts.
-- The types of RIS, and the item types that they have in CSL.
use Rattle.std.specs.Prelude.{ℕ, Bool, if◌then◌else◌, ◌==◌, List, [], length, codes}
use Rattle.bib_from_csl.specs.EntryTypes.{is_among_words}

-- whether a record is a periodical or a part of it
abbrev pub has_issues : List ℕ → Bool
has_issues = is_among_words (codes "JOUR EJOUR INPR ABST MGZN NEWS JFULL")

-- whether a record is a book or a report, which can belong to a series by itself
abbrev pub is_book_itself : List ℕ → Bool
is_book_itself = is_among_words (codes "BOOK EBOOK EDBOOK RPRT")

-- whether the number of a record counts the works of a series
abbrev pub is_in_series : List ℕ → Bool
is_in_series = is_among_words (codes "BOOK EBOOK EDBOOK CHAP ECHAP CONF CPAPER ENCYC DICT PAMP")

-- the item type of a picture, a map, a film, a sound, a talk, or a work of no special type (GEN); nothing for another type
unfoldable pub media_type : List ℕ → List ℕ
media_type kind =
    if is_among_words (codes "ART FIGURE") kind then codes "graphic"
    else if is_among_words (codes "MAP") kind then codes "map"
    else if is_among_words (codes "MPCT VIDEO ADVS") kind then codes "motion_picture"
    else if is_among_words (codes "SOUND MUSIC") kind then codes "song"
    else if is_among_words (codes "SLIDE") kind then codes "speech"
    else if is_among_words (codes "GEN") kind then codes "document"
    else []

-- the item type of a work of law, or `media_type`
unfoldable pub law_type : List ℕ → List ℕ
law_type kind =
    if is_among_words (codes "PAT") kind then codes "patent"
    else if is_among_words (codes "STAND") kind then codes "standard"
    else if is_among_words (codes "STAT") kind then codes "legislation"
    else if is_among_words (codes "BILL UNBILL") kind then codes "bill"
    else if is_among_words (codes "LEGAL") kind then codes "treaty"
    else if is_among_words (codes "CASE") kind then codes "legal_case"
    else if is_among_words (codes "HEAR") kind then codes "hearing"
    else media_type kind

-- the item type of a website, software, data, a letter, or a work that has no publisher, or `law_type`
unfoldable pub grey_type : List ℕ → List ℕ
grey_type kind =
    if is_among_words (codes "ELEC WEB") kind then codes "webpage"
    else if is_among_words (codes "BLOG") kind then codes "post-weblog"
    else if is_among_words (codes "COMP") kind then codes "software"
    else if is_among_words (codes "DATA DBASE AGGR") kind then codes "dataset"
    else if is_among_words (codes "PCOMM ICOMM") kind then codes "personal_communication"
    else if is_among_words (codes "THES") kind then codes "thesis"
    else if is_among_words (codes "RPRT GOVDOC") kind then codes "report"
    else if is_among_words (codes "UNPB MANSCPT") kind then codes "manuscript"
    else law_type kind

-- the item type of a book, a periodical, or a part of one of these, or `grey_type`
unfoldable pub known_item_type : List ℕ → List ℕ
known_item_type kind =
    if is_among_words (codes "JOUR EJOUR INPR ABST") kind then codes "article-journal"
    else if is_among_words (codes "MGZN") kind then codes "article-magazine"
    else if is_among_words (codes "NEWS") kind then codes "article-newspaper"
    else if is_among_words (codes "JFULL") kind then codes "periodical"
    else if is_among_words (codes "BOOK EBOOK EDBOOK") kind then codes "book"
    else if is_among_words (codes "CHAP ECHAP") kind then codes "chapter"
    else if is_among_words (codes "CONF CPAPER") kind then codes "paper-conference"
    else if is_among_words (codes "ENCYC") kind then codes "entry-encyclopedia"
    else if is_among_words (codes "DICT") kind then codes "entry-dictionary"
    else if is_among_words (codes "PAMP") kind then codes "pamphlet"
    else grey_type kind

-- the item type of a record of this type; `document` if the type is unknown
unfoldable pub type_of_record : List ℕ → List ℕ
type_of_record kind = if length (known_item_type kind) == 0 then codes "document" else known_item_type kind
