-- Meaning: words of public contracts.
-- The item of an entry.
use Rattle.std.specs.Prelude.{Bool, List, ◌++◌, ◌||◌, codes, is_some}
use Rattle.bib_entry.specs.declared.entry.Entry.{Entry}
use Rattle.bib_csl.specs.declared.item.Field.{Field}
use Rattle.bib_csl.specs.declared.item.Item.{Item}
use Rattle.bib_csl.specs.declared.item_types.ItemType.{ItemType}
use Rattle.bib_csl.specs.Dates.{date_fields}
use Rattle.bib_csl.specs.Identifiers.{identifier_fields, archive_fields}
use Rattle.bib_csl.specs.Notes.{note_fields}
use Rattle.bib_csl.specs.Numbers.{volume_fields, page_fields}
use Rattle.bib_csl.specs.People.{people_fields}
use Rattle.bib_csl.specs.Publishing.{publishing_fields}
use Rattle.bib_csl.specs.Texts.{field, shown_field}
use Rattle.bib_csl.specs.Titles.{title_fields, container_fields, event_fields}
use Rattle.bib_csl.specs.Types.{item_type_of}

-- whether an entry has the title or the place of an event, such as a conference
unfoldable pub has_event : Entry → Bool
has_event entry = is_some (field entry (codes "eventtitle")) || is_some (field entry (codes "venue"))

-- the type of the item of an entry
unfoldable pub type_of_entry : Entry → ItemType
type_of_entry entry = item_type_of entry.entry_type (shown_field (field entry (codes "entrysubtype"))) (has_event entry)

-- the titles, the container, the event, the publishers and the genre of an item
unfoldable pub work_fields : ItemType → Entry → List Field
work_fields kind entry =
    title_fields kind entry ++ (container_fields kind entry ++ (event_fields entry ++ publishing_fields entry))

-- the numbers, the pages, the identifiers, the archive and the notes of an item
unfoldable pub detail_fields : ItemType → Entry → List Field
detail_fields kind entry =
    volume_fields kind entry ++ (page_fields entry ++ (identifier_fields entry ++ (archive_fields entry ++ note_fields entry)))

-- the variables of the item of an entry; `kind` is the type of the item
unfoldable pub item_fields : ItemType → Entry → List Field
item_fields kind entry = work_fields kind entry ++ (detail_fields kind entry ++ (people_fields kind entry ++ date_fields entry))

-- the item of an entry
unfoldable pub item_of_entry : Entry → Item
item_of_entry entry = record { id = entry.key; kind = type_of_entry entry; fields = item_fields (type_of_entry entry) entry }
