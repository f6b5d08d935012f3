-- Meaning: words of public contracts.
-- The variables for the lines of a record, by their tags. The tables follow those of EndNote and Zotero, and bibutils where these have
-- none. `last-page`, `day` and `id` are no variables of CSL: they are the last page, the whole date, and the key.
use Rattle.std.specs.Prelude.{ℕ, Bool, not, ◌&&◌, ◌||◌, if◌then◌else◌, nat_lt, List, [], length, codes, bytes_eq}
use Rattle.bib_from_csl.specs.EntryTypes.{is_among_words}
use Rattle.bib_from_csl.specs.LanguageNames.{first_name}
use Rattle.bib_from_ris.specs.RisTypes.{is_in_series, has_issues, is_book_itself}
use Rattle.bib_from_ris.specs.declared.lines.RisLine.{RisLine}

-- the variable for the authors: those of an edited book are its editors
abbrev pub first_people : List ℕ → List ℕ
first_people kind = if bytes_eq kind (codes "EDBOOK") then codes "editor" else codes "author"

-- the variable for the tag A2: the editors of the series of a book; of another work the editors, or, if the tag ED has them (the flag says
-- so), the authors of the book that contains the work
abbrev pub second_people : List ℕ → Bool → List ℕ
second_people kind has_editors =
    if is_book_itself kind then codes "collection-editor" else if has_editors then codes "container-author" else codes "editor"

-- the variable for the tag A3: the editors of a book, or the editors of the series of another work
abbrev pub third_people : List ℕ → List ℕ
third_people kind = if is_book_itself kind then codes "editor" else codes "collection-editor"

-- the variable for a tag of people, or nothing for another tag
unfoldable pub people_variable : List ℕ → Bool → List ℕ → List ℕ
people_variable kind has_editors tag =
    if bytes_eq tag (codes "AU") then first_people kind
    else if bytes_eq tag (codes "A1") then first_people kind
    else if bytes_eq tag (codes "A2") then second_people kind has_editors
    else if bytes_eq tag (codes "A3") then third_people kind
    else if bytes_eq tag (codes "A4") then codes "translator"
    else if bytes_eq tag (codes "ED") then codes "editor"
    else []

-- the variable for the second title: the series of a book, or the work that contains another work
abbrev pub second_title : List ℕ → List ℕ
second_title kind = if is_book_itself kind then codes "collection-title" else codes "container-title"

-- the variable for the title of a book, which is the record or contains the work
abbrev pub title_in_book : List ℕ → List ℕ
title_in_book kind = if is_book_itself kind then codes "title" else codes "container-title"

-- the variable for a tag of titles, or nothing for another tag
unfoldable pub title_variable : List ℕ → List ℕ → List ℕ
title_variable kind tag =
    if bytes_eq tag (codes "TI") then codes "title"
    else if bytes_eq tag (codes "T1") then codes "title"
    else if bytes_eq tag (codes "CT") then codes "title"
    else if bytes_eq tag (codes "BT") then title_in_book kind
    else if bytes_eq tag (codes "T2") then second_title kind
    else if bytes_eq tag (codes "JF") then codes "container-title"
    else if bytes_eq tag (codes "JO") then codes "container-title"
    else if bytes_eq tag (codes "JA") then codes "container-title-short"
    else if bytes_eq tag (codes "J1") then codes "container-title-short"
    else if bytes_eq tag (codes "J2") then codes "container-title-short"
    else if bytes_eq tag (codes "T3") then codes "collection-title"
    else if bytes_eq tag (codes "ST") then codes "title-short"
    else []

-- the variable for a number: the issue of a periodical, the number in a series, or the number of the work itself
abbrev pub number_variable : List ℕ → List ℕ
number_variable kind =
    if has_issues kind then codes "issue" else if is_in_series kind then codes "collection-number" else codes "number"

-- the variable for the edition, which is the version of software
abbrev pub edition_variable : List ℕ → List ℕ
edition_variable kind = if bytes_eq kind (codes "COMP") then codes "version" else codes "edition"

-- the variable for a serial number: ISSN for a periodical or for fewer than ten bytes. An ISSN has nine characters, and an ISBN at least
-- ten
abbrev pub serial_variable : List ℕ → List ℕ → List ℕ
serial_variable kind value = if has_issues kind || nat_lt (length value) 10 then codes "ISSN" else codes "ISBN"

-- the variable for a tag of numbers or dates, or nothing for another tag; `value` is the text of the line
unfoldable pub count_variable : List ℕ → List ℕ → List ℕ → List ℕ
count_variable kind tag value =
    if bytes_eq tag (codes "VL") then codes "volume"
    else if bytes_eq tag (codes "NV") then codes "number-of-volumes"
    else if bytes_eq tag (codes "IS") then number_variable kind
    else if bytes_eq tag (codes "ET") then edition_variable kind
    else if bytes_eq tag (codes "SE") then codes "chapter-number"
    else if bytes_eq tag (codes "SP") then codes "page"
    else if bytes_eq tag (codes "EP") then codes "last-page"
    else if bytes_eq tag (codes "C7") then codes "number"
    else if bytes_eq tag (codes "SN") then serial_variable kind value
    else if bytes_eq tag (codes "PY") then codes "issued"
    else if bytes_eq tag (codes "Y1") then codes "issued"
    else if bytes_eq tag (codes "DA") then codes "day"
    else if bytes_eq tag (codes "Y2") then codes "accessed"
    else []

-- the variable for a tag of another text, or nothing
unfoldable pub word_variable : List ℕ → List ℕ
word_variable tag =
    if bytes_eq tag (codes "PB") then codes "publisher"
    else if bytes_eq tag (codes "CY") then codes "publisher-place"
    else if bytes_eq tag (codes "PP") then codes "publisher-place"
    else if bytes_eq tag (codes "M3") then codes "genre"
    else if bytes_eq tag (codes "AB") then codes "abstract"
    else if bytes_eq tag (codes "N2") then codes "abstract"
    else if bytes_eq tag (codes "N1") then codes "note"
    else if bytes_eq tag (codes "RN") then codes "annote"
    else if bytes_eq tag (codes "KW") then codes "keyword"
    else if bytes_eq tag (codes "LA") then codes "language"
    else []

-- the variable for a tag of an identifier, an address or a place in an archive, or nothing
unfoldable pub identifier_variable : List ℕ → List ℕ
identifier_variable tag =
    if bytes_eq tag (codes "UR") then codes "URL"
    else if bytes_eq tag (codes "L2") then codes "URL"
    else if bytes_eq tag (codes "DO") then codes "DOI"
    else if bytes_eq tag (codes "DB") then codes "archive"
    else if bytes_eq tag (codes "AN") then codes "archive_location"
    else if bytes_eq tag (codes "CN") then codes "call-number"
    else if bytes_eq tag (codes "ID") then codes "id"
    else []

-- the variable for a line of a record of this type, or nothing; the flag says whether the record has the tag ED
unfoldable pub variable_of : List ℕ → Bool → RisLine → List ℕ
variable_of kind has_editors line =
    first_name (first_name (first_name
    (first_name (people_variable kind has_editors line.tag) (title_variable kind line.tag)) (count_variable kind line.tag line.value))
    (word_variable line.tag)) (identifier_variable line.tag)

-- whether a line is used before the lines of the same variable for which this isn't so
unfoldable pub is_preferred : List ℕ → List ℕ → Bool
is_preferred kind tag =
    not (is_among_words (codes "BT JO J1 J2 L2 N2") tag) && not (bytes_eq tag (codes "T2") && is_book_itself kind)

-- the names of the variables that a record can have, in the order in which they are written, with a space between them
unfoldable pub variable_names : List ℕ
variable_names =
    codes
    "id author editor container-author translator collection-editor title title-short container-title container-title-short collection-title issued day accessed volume number-of-volumes issue number collection-number edition version chapter-number page last-page publisher publisher-place genre ISBN ISSN DOI URL archive archive_location call-number abstract note annote keyword language"

-- whether a variable is a list of names
abbrev pub is_name_list : List ℕ → Bool
is_name_list = is_among_words (codes "author editor container-author translator collection-editor")
