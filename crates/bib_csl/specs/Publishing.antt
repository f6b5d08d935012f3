-- Meaning: words of public contracts.
-- The publishers of an item and of its original, and its genre.
use Rattle.std.specs.Prelude.{ℕ, List, [], ◌∷◌, ◌++◌, codes, unwrap_or}
use Rattle.bib_text.specs.Enums.{value_named}
use Rattle.bib_entry.specs.Fields.{field_or}
use Rattle.bib_entry.specs.declared.entry.Entry.{Entry}
use Rattle.bib_tables.specs.declared.mechanics.EntryType.{EntryType}
use Rattle.bib_tables.specs.declared.mechanics.EntryType.TheVariants.{MastersThesis, PhdThesis, TechReport}
use Rattle.bib_csl.specs.declared.item.Field.{Field}
use Rattle.bib_csl.specs.declared.variables.Variable.TheVariants.{Publisher, PublisherPlace, OriginalPublisher, OriginalPublisherPlace, Genre}
use Rattle.bib_csl.specs.Adding.{given_listed}
use Rattle.bib_csl.specs.Fields.{given}
use Rattle.bib_csl.specs.Named.{pair}
use Rattle.bib_csl.specs.Tables.{field_in_table}
use Rattle.bib_csl.specs.Texts.{either, field, listed_field, rich_text}
use Rattle.bib_csl.specs.Ways.{way_as_publisher}

-- the publisher, or else the institution or school, or else the organization
unfoldable pub named_publisher : Entry → List ℕ
named_publisher entry =
    either (listed_field (field entry (codes "publisher")))
    (either (listed_field (field_or entry (codes "institution") (codes "school"))) (listed_field (field entry (codes "organization"))))

-- the publisher, or else `howpublished`, unless that begins with an address
unfoldable pub publisher_of : Entry → List ℕ
publisher_of entry = either (named_publisher entry) (way_as_publisher entry)

-- genres: BibLaTeX's key and the text
abbrev pub genres : List (List ℕ × List ℕ)
genres =
    pair "bathesis" "Bachelor's thesis" ∷
    pair "mathesis" "Master's thesis" ∷
    pair "phdthesis" "PhD thesis" ∷
    pair "candthesis" "Candidate thesis" ∷
    pair "techreport" "technical report" ∷
    pair "resreport" "research report" ∷
    pair "software" "computer software" ∷
    pair "datacd" "CD-ROM" ∷
    pair "audiocd" "audio CD" ∷
    pair "patent" "patent" ∷
    pair "patentde" "German patent" ∷
    pair "patenteu" "European patent" ∷
    pair "patentfr" "French patent" ∷
    pair "patentuk" "British patent" ∷
    pair "patentus" "U.S. patent" ∷
    pair "patreq" "patent request" ∷
    pair "patreqde" "German patent request" ∷
    pair "patreqeu" "European patent request" ∷
    pair "patreqfr" "French patent request" ∷
    pair "patrequk" "British patent request" ∷
    pair "patrequs" "U.S. patent request" ∷
    []

-- the genre by BibLaTeX's key for it in the field `type`, or the text itself if it is no such key
unfoldable pub genre_named : List ℕ → List ℕ
genre_named text = unwrap_or (value_named genres text) text

-- the genre that the entry type implies
unfoldable pub genre_of_type : EntryType → List ℕ
genre_of_type MastersThesis = codes "Master's thesis"
genre_of_type PhdThesis = codes "PhD thesis"
genre_of_type TechReport = codes "technical report"
genre_of_type other = []

-- the genre: by the field `type`, or else by the entry type
unfoldable pub genre_of : Entry → List ℕ
genre_of entry = either (genre_named (rich_text entry (field_in_table Genre))) (genre_of_type entry.entry_type)

-- the publisher and its place
unfoldable pub publisher_fields : Entry → List Field
publisher_fields entry =
    given Publisher (publisher_of entry) ++
    given PublisherPlace (listed_field (field_or entry (codes "location") (codes "address")))

-- the publisher of the original and its place
unfoldable pub original_fields : Entry → List Field
original_fields entry =
    given_listed OriginalPublisher entry ++
    given_listed OriginalPublisherPlace entry

-- the publishers of an item and of its original, and its genre
unfoldable pub publishing_fields : Entry → List Field
publishing_fields entry = publisher_fields entry ++ (original_fields entry ++ given Genre (genre_of entry))
