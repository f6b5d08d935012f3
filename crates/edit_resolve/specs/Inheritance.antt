-- Meaning: words of public contracts.
-- The rules of inheritance of BibLaTeX: the name that a field of an entry gets in an entry that refers to it. They are those of
-- biblatex.def of BibLaTeX 3.18b, which the BibLaTeX manual lists in its appendix on inheritance.
use Rattle.std.specs.Prelude.{ℕ, Bool, true, false, not, ◌&&◌, if◌then◌else◌, is_some, List, [], ◌∷◌, codes, bytes_eq, Option, Some, None, unwrap_or}
use Rattle.std.specs.Str.{str_to_ascii_lowercase}
use Rattle.bib_text.specs.Enums.{value_named}
use Rattle.bib_queries.specs.Answers.{has_part}
use Rattle.bib_tables.specs.Dialects.{biblatex_name}
use Rattle.bib_tables.specs.Requirements.{is_one_of}
use Rattle.bib_tables.specs.declared.mechanics.EntryType.{EntryType}
use Rattle.bib_tables.specs.declared.mechanics.EntryType.TheVariants.{Article, Book, BookInBook, Collection, InBook, InCollection, InProceedings, InReference, MvBook, MvCollection, MvProceedings, MvReference, Periodical, Proceedings, Reference, SuppBook, SuppCollection, SuppPeriodical}
use Rattle.edit_resolve.specs.declared.inheritance.Titles.{Titles}
use Rattle.edit_resolve.specs.declared.inheritance.Titles.TheVariants.{Main, Volume, Journal}

-- ---- names

-- fields that Biber reads under another name, besides those of `biblatex_name`
abbrev pub biber_names : List (List ℕ × List ℕ)
biber_names =
    (codes "annote", codes "annotation") ∷ (codes "archiveprefix", codes "eprinttype") ∷ (codes "primaryclass", codes "eprintclass")
    ∷ (codes "hyphenation", codes "langid") ∷ (codes "key", codes "sortkey") ∷ (codes "pdf", codes "file") ∷ []

-- the name under which Biber reads a field: in ASCII lowercase, or another one by `biber_names` or `biblatex_name`
abbrev pub read_name : List ℕ → List ℕ
read_name name =
    let lower : List ℕ = str_to_ascii_lowercase name in
    unwrap_or (value_named biber_names lower) (biblatex_name lower)

-- for a field, the fields that exclude it: an entry with one of them inherits no field with this name
abbrev pub rival_names : List (List ℕ × List (List ℕ))
rival_names =
    (codes "date", codes "year" ∷ []) ∷ (codes "year", codes "date" ∷ []) ∷ (codes "month", codes "date" ∷ [])
    ∷ (codes "day", codes "date" ∷ []) ∷ []

-- ---- types

-- the types of the parts of a book
abbrev pub is_book_part : EntryType → Bool
is_book_part InBook = true
is_book_part BookInBook = true
is_book_part SuppBook = true
is_book_part _ = false

-- a book, or one of its parts
abbrev pub is_book : EntryType → Bool
is_book Book = true
is_book InBook = true
is_book BookInBook = true
is_book SuppBook = true
is_book _ = false

-- the types of the parts of a collection or a work of reference
abbrev pub is_collection_part : EntryType → Bool
is_collection_part InCollection = true
is_collection_part InReference = true
is_collection_part SuppCollection = true
is_collection_part _ = false

-- a collection or a work of reference, or one of their parts
abbrev pub is_any_collection : EntryType → Bool
is_any_collection Collection = true
is_any_collection Reference = true
is_any_collection InCollection = true
is_any_collection InReference = true
is_any_collection SuppCollection = true
is_any_collection _ = false

-- proceedings, or an article in them
abbrev pub is_proceedings : EntryType → Bool
is_proceedings Proceedings = true
is_proceedings InProceedings = true
is_proceedings _ = false

-- an article in proceedings
abbrev pub is_proceedings_part : EntryType → Bool
is_proceedings_part InProceedings = true
is_proceedings_part _ = false

-- the types of the parts of a periodical
abbrev pub is_periodical_part : EntryType → Bool
is_periodical_part Article = true
is_periodical_part SuppPeriodical = true
is_periodical_part _ = false

-- the new names, if the test is passed
abbrev pub titles_if : Titles → Bool → Option Titles
titles_if titles passes = if passes then Some titles else None

-- the new names that the titles of an entry of the first type have in an entry of the second type, if they have new ones
abbrev pub titles_in : EntryType → EntryType → Option Titles
titles_in MvBook child = titles_if Main (is_book child)
titles_in MvCollection child = titles_if Main (is_any_collection child)
titles_in MvReference child = titles_if Main (is_any_collection child)
titles_in MvProceedings child = titles_if Main (is_proceedings child)
titles_in Book child = titles_if Volume (is_book_part child)
titles_in Collection child = titles_if Volume (is_collection_part child)
titles_in Reference child = titles_if Volume (is_collection_part child)
titles_in Proceedings child = titles_if Volume (is_proceedings_part child)
titles_in Periodical child = titles_if Journal (is_periodical_part child)
titles_in _ child = None

-- the new names of titles
abbrev pub title_names : Titles → List (List ℕ × List ℕ)
title_names Main =
    (codes "title", codes "maintitle") ∷ (codes "subtitle", codes "mainsubtitle") ∷ (codes "titleaddon", codes "maintitleaddon") ∷ []
title_names Volume =
    (codes "title", codes "booktitle") ∷ (codes "subtitle", codes "booksubtitle") ∷ (codes "titleaddon", codes "booktitleaddon") ∷ []
title_names Journal =
    (codes "title", codes "journaltitle") ∷ (codes "subtitle", codes "journalsubtitle")
    ∷ (codes "titleaddon", codes "journaltitleaddon") ∷ []

-- the new name of a title, if titles have new names
abbrev pub title_name : Option Titles → List ℕ → Option (List ℕ)
title_name None name = None
title_name (Some titles) name = value_named (title_names titles) name

-- whether the author of an entry of the first type is also the author of the book of an entry of the second type
abbrev pub has_book_author : EntryType → EntryType → Bool
has_book_author MvBook child = is_book_part child
has_book_author Book child = is_book_part child
has_book_author _ child = false

-- the name under which an entry of the second type inherits `author` besides `author` itself, if there is one
abbrev pub author_name : EntryType → EntryType → Option (List ℕ)
author_name parent child = if has_book_author parent child then Some (codes "bookauthor") else None

-- ---- fields

-- the new name that a field of an entry of the first type gets by `crossref` in an entry of the second type, if it has one
abbrev pub name_by_crossref : EntryType → EntryType → List ℕ → Option (List ℕ)
name_by_crossref parent child name =
    if bytes_eq name (codes "author") then author_name parent child else title_name (titles_in parent child) name

-- the fields that aren't inherited under their own names if titles get new ones
abbrev pub own_titles : List (List ℕ)
own_titles =
    codes "title" ∷ codes "subtitle" ∷ codes "titleaddon" ∷ codes "shorttitle" ∷ codes "sorttitle" ∷ codes "indextitle"
    ∷ codes "indexsorttitle" ∷ []

-- the fields that are never inherited by `crossref`
abbrev pub never_by_crossref : List (List ℕ)
never_by_crossref =
    codes "ids" ∷ codes "crossref" ∷ codes "xref" ∷ codes "xdata" ∷ codes "entryset" ∷ codes "entrysubtype" ∷ codes "execute"
    ∷ codes "label" ∷ codes "options" ∷ codes "presort" ∷ codes "related" ∷ codes "relatedoptions" ∷ codes "relatedstring"
    ∷ codes "relatedtype" ∷ codes "shorthand" ∷ codes "shorthandintro" ∷ codes "sortkey" ∷ []

-- whether a field is an annotation: its name contains `+an`, BibLaTeX's marker after the name of the annotated field
abbrev pub is_annotation : List ℕ → Bool
is_annotation name = has_part (codes "+an") name

-- whether an entry of the second type inherits a field of an entry of the first type by `crossref` under its own name
abbrev pub keeps_name : EntryType → EntryType → List ℕ → Bool
keeps_name parent child name =
    not (is_annotation name) && not (is_one_of never_by_crossref name)
    && not (is_some (titles_in parent child) && is_one_of own_titles name)

-- the fields that no entry inherits from the entries that its `xdata` names
abbrev pub never_by_xdata : List (List ℕ)
never_by_xdata = codes "ids" ∷ codes "crossref" ∷ codes "xdata" ∷ codes "options" ∷ []

-- whether an entry inherits a field with this name from the entries that its `xdata` names
abbrev pub passes_on : List ℕ → Bool
passes_on name = not (is_annotation name) && not (is_one_of never_by_xdata name)
