-- Meaning: words of public contracts.
-- The titles of an item, of its container and of its event.
use Rattle.std.specs.Prelude.{ℕ, true, ◌||◌, ◌==◌, if◌then◌else◌, List, [], ◌++◌, length, codes}
use Rattle.bib_entry.specs.declared.entry.Entry.{Entry}
use Rattle.bib_entry.specs.Fields.{field_or}
use Rattle.bib_csl.specs.declared.item.Field.{Field}
use Rattle.bib_csl.specs.declared.item_types.ItemType.{ItemType}
use Rattle.bib_csl.specs.declared.variables.Variable.TheVariants.{Title, TitleShort, VolumeTitle, ContainerTitle, ContainerTitleShort, CollectionTitle, OriginalTitle, Event, EventTitle, EventPlace}
use Rattle.bib_csl.specs.Adding.{given_rich, given_title}
use Rattle.bib_csl.specs.Fields.{given}
use Rattle.bib_csl.specs.Tables.{field_in_table}
use Rattle.bib_csl.specs.Texts.{marked_field, title_text, either, joined_by_mark, series_named}
use Rattle.bib_csl.specs.Types.{is_article, is_in_book, is_volume}

-- a title with its subtitle and its addition, which are in the fields `subtitle` and `addon`
unfoldable pub with_subtitle : Entry → List ℕ → List ℕ → List ℕ → List ℕ
with_subtitle entry title subtitle addon =
    joined_by_mark (codes ".") (joined_by_mark (codes ":") title (title_text entry subtitle)) (title_text entry addon)

-- the title of the work itself
unfoldable pub own_title : Entry → List ℕ
own_title entry = with_subtitle entry (title_text entry (codes "title")) (codes "subtitle") (codes "titleaddon")

-- the title of a work of several volumes
unfoldable pub title_of_work : Entry → List ℕ
title_of_work entry = with_subtitle entry (title_text entry (codes "maintitle")) (codes "mainsubtitle") (codes "maintitleaddon")

-- the title of the book that contains the work
unfoldable pub title_of_book : Entry → List ℕ
title_of_book entry = with_subtitle entry (title_text entry (codes "booktitle")) (codes "booksubtitle") (codes "booktitleaddon")

-- the title of the journal
unfoldable pub journal_title : Entry → List ℕ
journal_title entry =
    with_subtitle entry (marked_field true (field_or entry (codes "journaltitle") (codes "journal")))
    (codes "journalsubtitle") (codes "journaltitleaddon")

-- the title of the work itself, or else that of the book that contains it
unfoldable pub title_of_whole : Entry → List ℕ
title_of_whole entry = either (own_title entry) (title_of_book entry)

-- the title of the item: of the work itself. For a book or a periodical, it is the title of the work of several volumes, or else that of
-- `title_of_whole`
unfoldable pub item_title : ItemType → Entry → List ℕ
item_title kind entry = if is_volume kind then either (title_of_work entry) (title_of_whole entry) else own_title entry

-- the title of the volume, if the item is a volume or a part of a book, and the work of several volumes has a title; otherwise nothing
unfoldable pub volume_title : ItemType → Entry → List ℕ
volume_title kind entry =
    if length (title_of_work entry) == 0 then []
    else if is_volume kind then title_of_whole entry
    else if is_in_book kind then title_of_book entry
    else []

-- the title of the container. For a part of a book, this is the work of several volumes, or else the book. For an article or a volume, it
-- is the journal. For any other item, it is the journal, or else the book.
unfoldable pub container_title : ItemType → Entry → List ℕ
container_title kind entry =
    if is_in_book kind then either (title_of_work entry) (title_of_book entry)
    else if is_article kind || is_volume kind then journal_title entry
    else either (journal_title entry) (title_of_book entry)

-- the name of the event, such as a conference
unfoldable pub event_title : Entry → List ℕ
event_title entry = joined_by_mark (codes ".") (title_text entry (codes "eventtitle")) (title_text entry (codes "eventtitleaddon"))

-- the title, the short title, the title of the volume and the title of the original
unfoldable pub title_fields : ItemType → Entry → List Field
title_fields kind entry =
    given Title (item_title kind entry) ++
    (given_title TitleShort entry ++
    (given VolumeTitle (volume_title kind entry) ++
    given_title OriginalTitle entry))

-- the title of the series
unfoldable pub series_title : Entry → List ℕ
series_title entry = series_named (title_text entry (field_in_table CollectionTitle))

-- the title of the container, its short form and the title of the series
unfoldable pub container_fields : ItemType → Entry → List Field
container_fields kind entry =
    given ContainerTitle (container_title kind entry) ++
    (given_title ContainerTitleShort entry ++
    given CollectionTitle (series_title entry))

-- the title of the event, such as a conference, under both of its names, and its place
unfoldable pub event_fields : Entry → List Field
event_fields entry =
    given Event (event_title entry) ++ (given EventTitle (event_title entry) ++ given_rich EventPlace entry)
