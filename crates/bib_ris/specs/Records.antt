-- Meaning: words of public contracts.
-- Entries as records of RIS. Most texts are formatted as in items of CSL-JSON; only the publisher, its place and the genre have HTML tags.
use Rattle.std.specs.Prelude.{ℕ, if◌then◌else◌, List, [], ◌++◌, codes, Option, Some, None, is_some}
use Rattle.bib_csl.specs.Identifiers.{archive_text, bare_doi, url_of}
use Rattle.bib_csl.specs.Notes.{language_of, language_value}
use Rattle.bib_csl.specs.Publishing.{genre_of, publisher_of}
use Rattle.bib_csl.specs.Texts.{either, field, joined_by_mark, listed_field, series_named, shown_field}
use Rattle.bib_chunks.specs.Values.{Value}
use Rattle.bib_entry.specs.Fields.{field_or}
use Rattle.bib_entry.specs.declared.entry.Entry.{Entry}
use Rattle.bib_values.specs.Lists.{strings_read}
use Rattle.bib_ris.specs.Bare.{bare_named, bare_named_or}
use Rattle.bib_ris.specs.Dates.{lines_of_dates}
use Rattle.bib_ris.specs.Lines.{given_line, ris_line, ris_lines}
use Rattle.bib_ris.specs.Pages.{pages_lines}
use Rattle.bib_ris.specs.People.{people_lines}
use Rattle.bib_ris.specs.Types.{ris_type}

-- ---- people

-- the authors, or else the holders, such as those of a patent; the authors of the book that contains the work; and the translators
unfoldable pub authors_part : Entry → List ℕ
authors_part entry =
    people_lines (codes "AU") (field_or entry (codes "author") (codes "holder"))
    ++ (people_lines (codes "A2") (field entry (codes "bookauthor"))
    ++ people_lines (codes "A4") (field entry (codes "translator")))

-- the editors of every role
unfoldable pub editors_part : Entry → List ℕ
editors_part entry =
    people_lines (codes "ED") (field entry (codes "editor"))
    ++ (people_lines (codes "ED") (field entry (codes "editora"))
    ++ (people_lines (codes "ED") (field entry (codes "editorb"))
    ++ people_lines (codes "ED") (field entry (codes "editorc"))))

-- ---- titles

-- a title with its subtitle and its addition, which are in the fields `subtitle` and `addon`
unfoldable pub whole_title : Entry → List ℕ → List ℕ → List ℕ → List ℕ
whole_title entry title subtitle addon =
    joined_by_mark (codes ".") (joined_by_mark (codes ":") title (bare_named entry subtitle)) (bare_named entry addon)

-- the title of the work itself
unfoldable pub work_title : Entry → List ℕ
work_title entry = whole_title entry (bare_named entry (codes "title")) (codes "subtitle") (codes "titleaddon")

-- the title of the journal
unfoldable pub periodical_title : Entry → List ℕ
periodical_title entry =
    whole_title entry (bare_named_or entry (codes "journaltitle") (codes "journal")) (codes "journalsubtitle") (codes "journaltitleaddon")

-- the title of the book that contains the work
unfoldable pub book_around : Entry → List ℕ
book_around entry = whole_title entry (bare_named entry (codes "booktitle")) (codes "booksubtitle") (codes "booktitleaddon")

-- the title of the work of several volumes
unfoldable pub volumes_around : Entry → List ℕ
volumes_around entry = whole_title entry (bare_named entry (codes "maintitle")) (codes "mainsubtitle") (codes "maintitleaddon")

-- the title of the event, such as a conference
unfoldable pub meeting_title : Entry → List ℕ
meeting_title entry = joined_by_mark (codes ".") (bare_named entry (codes "eventtitle")) (bare_named entry (codes "eventtitleaddon"))

-- the title of the container of the work: the journal, or else the book, the work of several volumes, or the event
unfoldable pub host_title : Entry → List ℕ
host_title entry = either (periodical_title entry) (either (book_around entry) (either (volumes_around entry) (meeting_title entry)))

-- the titles of the journal and of the book once more, under the tags that bibutils reads as those of whole titles
unfoldable pub whole_host_part : Entry → List ℕ
whole_host_part entry = given_line (codes "JF") (periodical_title entry) ++ given_line (codes "BT") (book_around entry)

-- the container's title, the titles of the journal and of the book once more, and the journal's short title
unfoldable pub host_part : Entry → List ℕ
host_part entry =
    given_line (codes "T2") (host_title entry)
    ++ (whole_host_part entry ++ given_line (codes "JA") (bare_named entry (codes "shortjournal")))

-- the title, its short form, the titles of the container of the work, and the title of the series
unfoldable pub titles_part : Entry → List ℕ
titles_part entry =
    given_line (codes "TI") (work_title entry)
    ++ (given_line (codes "ST") (bare_named entry (codes "shorttitle"))
    ++ (host_part entry ++ given_line (codes "T3") (series_named (bare_named entry (codes "series")))))

-- ---- numbers

-- volume, number of volumes, number, edition or version, and chapter
unfoldable pub volume_part : Entry → List ℕ
volume_part entry =
    given_line (codes "VL") (bare_named entry (codes "volume"))
    ++ (given_line (codes "NV") (bare_named entry (codes "volumes"))
    ++ (given_line (codes "IS") (bare_named_or entry (codes "number") (codes "issue"))
    ++ (given_line (codes "ET") (bare_named_or entry (codes "edition") (codes "version"))
    ++ given_line (codes "SE") (bare_named entry (codes "chapter")))))

-- the field `pagetotal`, the number of pages, unless the entry has the field `pages`
unfoldable pub page_total : Entry → List ℕ
page_total entry = if is_some (field entry (codes "pages")) then [] else bare_named entry (codes "pagetotal")

-- the pages, or else their number, and the number of an article
unfoldable pub pages_part : Entry → List ℕ
pages_part entry =
    pages_lines (field entry (codes "pages"))
    ++ (given_line (codes "SP") (page_total entry) ++ given_line (codes "C7") (bare_named entry (codes "eid")))

-- ---- publication

-- the place of the publisher, or else of the event
unfoldable pub publication_place : Entry → List ℕ
publication_place entry = either (listed_field (field_or entry (codes "location") (codes "address"))) (bare_named entry (codes "venue"))

-- the publisher, the place and the genre
unfoldable pub publisher_part : Entry → List ℕ
publisher_part entry =
    given_line (codes "PB") (publisher_of entry)
    ++ (given_line (codes "CY") (publication_place entry) ++ given_line (codes "M3") (genre_of entry))

-- the ISBN or ISSN, the DOI, the address, and the place in a database or a library
unfoldable pub links_part : Entry → List ℕ
links_part entry =
    given_line (codes "SN") (bare_named_or entry (codes "isbn") (codes "issn"))
    ++ (given_line (codes "DO") (bare_doi (shown_field (field entry (codes "doi"))))
    ++ (given_line (codes "UR") (url_of entry)
    ++ (given_line (codes "DB") (archive_text entry)
    ++ (given_line (codes "AN") (shown_field (field entry (codes "eprint")))
    ++ given_line (codes "CN") (bare_named entry (codes "library"))))))

-- ---- contents

-- a line for each part of the comma list `keywords`, also for an empty part
unfoldable pub keyword_lines : Option Value → List ℕ
keyword_lines None = []
keyword_lines (Some chunks) = ris_lines (codes "KW") (strings_read chunks)

-- abstract, notes, annotation, keywords and language
unfoldable pub contents_part : Entry → List ℕ
contents_part entry =
    given_line (codes "AB") (bare_named entry (codes "abstract"))
    ++ (given_line (codes "N1") (bare_named entry (codes "note"))
    ++ (given_line (codes "N1") (bare_named entry (codes "addendum"))
    ++ (given_line (codes "RN") (bare_named_or entry (codes "annotation") (codes "annote"))
    ++ (keyword_lines (field entry (codes "keywords"))
    ++ given_line (codes "LA") (language_of (language_value entry))))))

-- ---- records

-- the line with the type of the record
unfoldable pub type_part : Entry → List ℕ
type_part entry = ris_line (codes "TY") (ris_type entry.entry_type (field entry (codes "entrysubtype")))

-- the key, and the end of the record with an empty line after it
unfoldable pub end_part : Entry → List ℕ
end_part entry = ris_line (codes "ID") entry.key ++ codes "ER  - \n\n"

-- the type, the people, the titles and the dates
unfoldable pub work_part : Entry → List ℕ
work_part entry = type_part entry ++ (authors_part entry ++ (editors_part entry ++ (titles_part entry ++ lines_of_dates entry)))

-- the numbers, the publisher, the identifiers and the contents
unfoldable pub publication_part : Entry → List ℕ
publication_part entry =
    volume_part entry ++ (pages_part entry ++ (publisher_part entry ++ (links_part entry ++ contents_part entry)))

-- the record of an entry
unfoldable pub ris_of : Entry → List ℕ
ris_of entry = work_part entry ++ (publication_part entry ++ end_part entry)
