-- Meaning: words of public contracts.
-- The types of RIS, by the types of entries.
use Rattle.std.specs.Prelude.{ℕ, if◌then◌else◌, List, codes, Option, Some, None}
use Rattle.std.specs.Str.{str_eq_ignore_ascii_case}
use Rattle.bib_chunks.specs.Values.{Value, text}
use Rattle.bib_csl.specs.Types.{item_type_named}
use Rattle.bib_csl.specs.declared.item_types.ItemType.{ItemType}
use Rattle.bib_csl.specs.declared.item_types.ItemType.TheVariants as item_type
use Rattle.bib_tables.specs.declared.mechanics.EntryType.{EntryType}
use Rattle.bib_tables.specs.declared.mechanics.EntryType.TheVariants.{Article, Book, Booklet, InBook, InCollection, InProceedings, Manual, MastersThesis, PhdThesis, Misc, Proceedings, TechReport, Unpublished, MvBook, BookInBook, SuppBook, Periodical, SuppPeriodical, Collection, MvCollection, SuppCollection, Reference, MvReference, InReference, MvProceedings, Report, Patent, Thesis, Online, Software, Dataset, Set, XData, Unknown}

-- the type of an article, by the text of its `entrysubtype` in any ASCII case: in a magazine, in a newspaper, or in a journal
abbrev pub periodical_type : List ℕ → List ℕ
periodical_type subtype =
    if str_eq_ignore_ascii_case subtype (codes "magazine") then codes "MGZN"
    else if str_eq_ignore_ascii_case subtype (codes "newspaper") then codes "NEWS"
    else codes "JOUR"

-- the type of an article, by its field `entrysubtype`; an article without this field is in a journal
abbrev pub article_type : Option Value → List ℕ
article_type None = codes "JOUR"
article_type (Some subtype) = periodical_type (text subtype)

-- the type of the record of an entry whose type is unknown, by the type of its item
abbrev pub type_of_work : ItemType → List ℕ
type_of_work item_type.Graphic = codes "ART"
type_of_work item_type.LegalCase = codes "CASE"
type_of_work item_type.Legislation = codes "STAT"
type_of_work item_type.MotionPicture = codes "MPCT"
type_of_work item_type.PersonalCommunication = codes "PCOMM"
type_of_work item_type.Review = codes "JOUR"
type_of_work item_type.Song = codes "SOUND"
type_of_work item_type.Standard = codes "STAND"
type_of_work item_type.Treaty = codes "LEGAL"
type_of_work other = codes "GEN"

-- the type of a record, by the type of its entry and the field `entrysubtype`
abbrev pub ris_type : EntryType → Option Value → List ℕ
ris_type Article subtype = article_type subtype
ris_type SuppPeriodical subtype = article_type subtype
ris_type Book subtype = codes "BOOK"
ris_type MvBook subtype = codes "BOOK"
ris_type Manual subtype = codes "BOOK"
ris_type Collection subtype = codes "BOOK"
ris_type MvCollection subtype = codes "BOOK"
ris_type Reference subtype = codes "BOOK"
ris_type MvReference subtype = codes "BOOK"
ris_type InBook subtype = codes "CHAP"
ris_type InCollection subtype = codes "CHAP"
ris_type BookInBook subtype = codes "CHAP"
ris_type SuppBook subtype = codes "CHAP"
ris_type SuppCollection subtype = codes "CHAP"
ris_type InProceedings subtype = codes "CPAPER"
ris_type Proceedings subtype = codes "CONF"
ris_type MvProceedings subtype = codes "CONF"
ris_type Thesis subtype = codes "THES"
ris_type MastersThesis subtype = codes "THES"
ris_type PhdThesis subtype = codes "THES"
ris_type Report subtype = codes "RPRT"
ris_type TechReport subtype = codes "RPRT"
ris_type Online subtype = codes "ELEC"
ris_type Patent subtype = codes "PAT"
ris_type Dataset subtype = codes "DATA"
ris_type Software subtype = codes "COMP"
ris_type Unpublished subtype = codes "UNPB"
ris_type Periodical subtype = codes "JFULL"
ris_type Booklet subtype = codes "PAMP"
ris_type InReference subtype = codes "ENCYC"
ris_type Misc subtype = codes "GEN"
ris_type Set subtype = codes "GEN"
ris_type XData subtype = codes "GEN"
ris_type (Unknown name) subtype = type_of_work (item_type_named name)
