-- The variables of an item are in a fixed order, so each occurs at most once.
use Rattle.std.proofs.Common.{◌≡◌, ◌≤◌, ◌<◌, ◌+◌, ◌==◌, ℕ, suc, Bool, true, false, if◌then◌else◌, List, [], ◌∷◌, ◌++◌, Option, Some, None, length, codes, bytes_eq, refl, ap, ◌∙◌, arith}
use Rattle.std.specs.List.{AllByRecursion}
use Rattle.serde_json.specs.Data.{string, Members, no_members, put}
use Rattle.serde_json.specs.Find.{get_member}
use Rattle.serde_json.proofs.Views.{get_member-put, get_member-put_other}
use Rattle.bib_entry.specs.declared.entry.Entry.{Entry}
use Rattle.bib_csl.specs.declared.item.Field.{Field}
use Rattle.bib_csl.specs.declared.item.ItemDate.{ItemDate}
use Rattle.bib_csl.specs.declared.item.Name.{Name}
use Rattle.bib_csl.specs.declared.item_types.ItemType.{ItemType}
use Rattle.bib_csl.specs.declared.variables.Variable.{Variable}
use Rattle.bib_csl.specs.declared.variables.Variable.TheVariants.{Title, TitleShort, VolumeTitle, OriginalTitle, ContainerTitle, ContainerTitleShort, CollectionTitle, Event, EventTitle, EventPlace, Publisher, PublisherPlace, OriginalPublisher, OriginalPublisherPlace, Genre, Volume, NumberOfVolumes, PartNumber, Issue, Number, CollectionNumber, Edition, ChapterNumber, Page, NumberOfPages, Version, Doi, Url, Pmid, Isbn, Issn, Archive, ArchiveLocation, CallNumber, Abstract, Annote, Note, Status, Keyword, Language, Author, Editor, Compiler, Director, Organizer, Translator, ContainerAuthor, Issued, Accessed, EventDate, OriginalDate}
use Rattle.bib_csl.specs.Adding.{given_listed, given_plain, given_rich, given_rich_or, given_title}
use Rattle.bib_csl.specs.Dates.{date_fields}
use Rattle.bib_csl.specs.Fields.{given, given_people, given_date}
use Rattle.bib_csl.specs.Identifiers.{identifier_fields, archive_fields}
use Rattle.bib_csl.specs.Items.{work_fields, detail_fields, item_fields, item_of_entry, type_of_entry}
use Rattle.bib_csl.specs.Json.{content_json, with_variable, with_variables, head_members}
use Rattle.bib_csl.specs.Tables.{variable_name, item_type_name}
use Rattle.bib_csl.specs.Notes.{note_fields}
use Rattle.bib_csl.specs.Numbers.{volume_fields, page_fields}
use Rattle.bib_csl.specs.People.{editor_fields, given_people_in, people_fields}
use Rattle.bib_csl.specs.Publishing.{publisher_fields, original_fields, publishing_fields}
use Rattle.bib_csl.specs.Titles.{title_fields, container_fields, event_fields}

-- the order of variables
abbrev order : List Variable
order =
    Title ∷ TitleShort ∷ VolumeTitle ∷ OriginalTitle ∷ ContainerTitle ∷ ContainerTitleShort ∷ CollectionTitle ∷ Event ∷
    EventTitle ∷ EventPlace ∷ Publisher ∷ PublisherPlace ∷ OriginalPublisher ∷ OriginalPublisherPlace ∷ Genre ∷ Volume ∷
    NumberOfVolumes ∷ PartNumber ∷ Issue ∷ Number ∷ CollectionNumber ∷ Edition ∷ ChapterNumber ∷ Page ∷
    NumberOfPages ∷ Version ∷ Doi ∷ Url ∷ Pmid ∷ Isbn ∷ Issn ∷ Archive ∷
    ArchiveLocation ∷ CallNumber ∷ Abstract ∷ Annote ∷ Note ∷ Status ∷ Keyword ∷ Language ∷
    Author ∷ Editor ∷ Compiler ∷ Director ∷ Organizer ∷ Translator ∷ ContainerAuthor ∷ Issued ∷
    Accessed ∷ EventDate ∷ OriginalDate ∷ []

-- the index of the variable with this name in a list; the length of the list if there is none
abbrev place : List ℕ → List Variable → ℕ
place name [] = 0
place name (v ∷ vs) = if bytes_eq name (variable_name v) then 0 else suc (place name vs)

abbrev index : Variable → ℕ
index v = place (variable_name v) order

-- variables in this order, from one index up to before another
pub data IsBetween : ℕ → ℕ → List Field → Type 0 where
  none : {lo hi : ℕ} → lo ≤ hi → IsBetween lo hi []
  more : {lo hi : ℕ} {f : Field} {fs : List Field} → lo ≤ index f.variable → IsBetween (index f.variable + 1) hi fs
      → IsBetween lo hi (f ∷ fs)

ascends : {lo hi : ℕ} {fs : List Field} → IsBetween lo hi fs → lo ≤ hi
ascends (none h) = h
ascends {lo} {hi} (more h p) = let later = ascends p in omega (arith, h, later)

from_before : {lo mid hi : ℕ} {fs : List Field} → lo ≤ mid → IsBetween mid hi fs → IsBetween lo hi fs
from_before h (none k) = none (omega (arith, h, k))
from_before h (more k p) = more (omega (arith, h, k)) p

-- variables in order, followed by later ones, are in order
joins : {lo mid hi : ℕ} {fs gs : List Field} → IsBetween lo mid fs → IsBetween mid hi gs → IsBetween lo hi (fs ++ gs)
joins (none h) q = from_before h q
joins (more h p) q = more h (joins p q)

one : (f : Field) → IsBetween (index f.variable) (index f.variable + 1) (f ∷ [])
one f = more (omega arith) (none (omega arith))

perhaps : (b : Bool) (f : Field) → IsBetween (index f.variable) (index f.variable + 1) (if b then [] else f ∷ [])
perhaps true f = none (omega arith)
perhaps false f = one f

text : (v : Variable) (t : List ℕ) → IsBetween (index v) (index v + 1) (given v t)
unfolding given
text v t = perhaps (length t == 0) _

-- the same of a variable with the content of its field
plain : (v : Variable) (entry : Entry) → IsBetween (index v) (index v + 1) (given_plain v entry)
unfolding given_plain
plain v entry = text v _

title : (v : Variable) (entry : Entry) → IsBetween (index v) (index v + 1) (given_title v entry)
unfolding given_title
title v entry = text v _

rich : (v : Variable) (entry : Entry) → IsBetween (index v) (index v + 1) (given_rich v entry)
unfolding given_rich
rich v entry = text v _

rich_or : (v : Variable) (entry : Entry) (other : List ℕ) → IsBetween (index v) (index v + 1) (given_rich_or v entry other)
unfolding given_rich_or
rich_or v entry other = text v _

listed : (v : Variable) (entry : Entry) → IsBetween (index v) (index v + 1) (given_listed v entry)
unfolding given_listed
listed v entry = text v _

people : (v : Variable) (ns : List Name) → IsBetween (index v) (index v + 1) (given_people v ns)
unfolding given_people
people v ns = perhaps (length ns == 0) _

people_in : (v : Variable) (entry : Entry) → IsBetween (index v) (index v + 1) (given_people_in v entry)
unfolding given_people_in
people_in v entry = people v _

date : (v : Variable) (d : Option ItemDate) → IsBetween (index v) (index v + 1) (given_date v d)
unfolding given_date
date v None = none (omega arith)
date v (Some d) = one _

title_fields_in_order : (kind : ItemType) (entry : Entry) → IsBetween 0 4 (title_fields kind entry)
unfolding title_fields
title_fields_in_order kind entry =
    joins (text Title _) (joins (title TitleShort entry) (joins (text VolumeTitle _) (title OriginalTitle entry)))

container_fields_in_order : (kind : ItemType) (entry : Entry) → IsBetween 4 7 (container_fields kind entry)
unfolding container_fields
container_fields_in_order kind entry =
    joins (text ContainerTitle _) (joins (title ContainerTitleShort entry) (text CollectionTitle _))

event_fields_in_order : (entry : Entry) → IsBetween 7 10 (event_fields entry)
unfolding event_fields
event_fields_in_order entry =
    joins (text Event _) (joins (text EventTitle _) (rich EventPlace entry))

publisher_fields_in_order : (entry : Entry) → IsBetween 10 12 (publisher_fields entry)
unfolding publisher_fields
publisher_fields_in_order entry =
    joins (text Publisher _) (text PublisherPlace _)

original_fields_in_order : (entry : Entry) → IsBetween 12 14 (original_fields entry)
unfolding original_fields
original_fields_in_order entry =
    joins (listed OriginalPublisher entry) (listed OriginalPublisherPlace entry)

volume_fields_in_order : (kind : ItemType) (entry : Entry) → IsBetween 15 21 (volume_fields kind entry)
unfolding volume_fields
volume_fields_in_order kind entry =
    joins (rich Volume entry)
    (joins (rich NumberOfVolumes entry)
    (joins (rich PartNumber entry) (joins (text Issue _) (joins (text Number _) (text CollectionNumber _)))))

page_fields_in_order : (entry : Entry) → IsBetween 21 26 (page_fields entry)
unfolding page_fields
page_fields_in_order entry =
    joins (rich Edition entry)
    (joins (rich ChapterNumber entry) (joins (text Page _) (joins (rich NumberOfPages entry) (rich Version entry))))

identifier_fields_in_order : (entry : Entry) → IsBetween 26 31 (identifier_fields entry)
unfolding identifier_fields
identifier_fields_in_order entry =
    joins (text Doi _) (joins (text Url _) (joins (text Pmid _) (joins (plain Isbn entry) (plain Issn entry))))

archive_fields_in_order : (entry : Entry) → IsBetween 31 34 (archive_fields entry)
unfolding archive_fields
archive_fields_in_order entry =
    joins (text Archive _) (joins (text ArchiveLocation _) (plain CallNumber entry))

note_fields_in_order : (entry : Entry) → IsBetween 34 40 (note_fields entry)
unfolding note_fields
note_fields_in_order entry =
    joins (rich Abstract entry)
    (joins (rich_or Annote entry (codes "annote"))
    (joins (text Note _) (joins (text Status _) (joins (plain Keyword entry) (text Language _)))))

editor_fields_in_order : (entry : Entry) → IsBetween 41 45 (editor_fields entry)
unfolding editor_fields
editor_fields_in_order entry = joins (people Editor _) (joins (people Compiler _) (joins (people Director _) (people Organizer _)))

people_fields_in_order : (kind : ItemType) (entry : Entry) → IsBetween 40 47 (people_fields kind entry)
unfolding people_fields
people_fields_in_order kind entry =
    joins (people Author _) (joins (editor_fields_in_order entry) (joins (people_in Translator entry) (people_in ContainerAuthor entry)))

date_fields_in_order : (entry : Entry) → IsBetween 47 51 (date_fields entry)
unfolding date_fields
date_fields_in_order entry =
    joins (date Issued _) (joins (date Accessed _) (joins (date EventDate _) (date OriginalDate _)))

publishing_in_order : (entry : Entry) → IsBetween 10 15 (publishing_fields entry)
unfolding publishing_fields
publishing_in_order entry = joins (publisher_fields_in_order entry) (joins (original_fields_in_order entry) (text Genre _))

work_in_order : (kind : ItemType) (entry : Entry) → IsBetween 0 15 (work_fields kind entry)
unfolding work_fields
work_in_order kind entry =
    joins (title_fields_in_order kind entry)
    (joins (container_fields_in_order kind entry) (joins (event_fields_in_order entry) (publishing_in_order entry)))

details_in_order : (kind : ItemType) (entry : Entry) → IsBetween 15 40 (detail_fields kind entry)
unfolding detail_fields
details_in_order kind entry =
    joins (volume_fields_in_order kind entry) (joins (page_fields_in_order entry) (joins (identifier_fields_in_order entry)
    (joins (archive_fields_in_order entry) (note_fields_in_order entry))))

-- all variables of an item are in order
all_in_order : (kind : ItemType) (entry : Entry) → IsBetween 0 51 (item_fields kind entry)
unfolding item_fields
all_in_order kind entry =
    joins (work_in_order kind entry)
    (joins (details_in_order kind entry) (joins (people_fields_in_order kind entry) (date_fields_in_order entry)))

-- adding variables doesn't change the member of a name that is before all of them in the order; the next lemma states this for a name
-- after all of them
kept_before : (q : List ℕ) {lo hi : ℕ} {fs : List Field} (ms : Members) → place q order < lo → IsBetween lo hi fs
    → get_member q (with_variables fs ms) ≡ get_member q ms
unfolding with_variable
kept_before q ms h (none k) = refl
kept_before q {lo} ms h (more {f = f} k p) =
    let apart =
    λ (same : q ≡ variable_name f.variable).
    let e : place q order ≡ index f.variable = ap (λ n. place n order) same in absurd (omega (arith, h, k, e)) in
    kept_before q _ (omega (arith, h, k)) p ∙ get_member-put_other q (variable_name f.variable) (content_json f.content) ms apart

kept_after : (q : List ℕ) {lo hi : ℕ} {fs : List Field} (ms : Members) → hi ≤ place q order → IsBetween lo hi fs
    → get_member q (with_variables fs ms) ≡ get_member q ms
unfolding with_variable
kept_after q ms h (none k) = refl
kept_after q ms h (more {f = f} k p) =
    let later = ascends p in
    let apart =
    λ (same : q ≡ variable_name f.variable).
    let e : place q order ≡ index f.variable = ap (λ n. place n order) same in
    absurd (omega (arith, h, later, e)) in
    kept_after q _ h p ∙ get_member-put_other q (variable_name f.variable) (content_json f.content) ms apart

-- the member of a variable is its content
abbrev IsFound : Members → Field → Type 0
IsFound ms f = get_member (variable_name f.variable) ms ≡ Some (content_json f.content)

found : {lo hi : ℕ} {fs : List Field} (ms : Members) → IsBetween lo hi fs → AllByRecursion (IsFound (with_variables fs ms)) fs
unfolding with_variable
found ms (none h) = tt
found ms (more {f = f} h p) = (
  kept_before (variable_name f.variable) _ (omega arith) p ∙ get_member-put (variable_name f.variable) (content_json f.content) ms,
  found (with_variable f ms) p,
)

pub variables_found : (entry : Entry)
    → AllByRecursion (IsFound (with_variables (item_of_entry entry).fields (head_members (item_of_entry entry))))
    (item_of_entry entry).fields
unfolding item_of_entry
variables_found entry = found _ (all_in_order (type_of_entry entry) entry)

id_is_not_type : codes "id" ≡ codes "type" → ⊥
id_is_not_type same = let lengths : 2 ≡ 4 = ap length same in absurd (omega (arith, lengths))

-- the member `id` is the key of the entry, because `id` is no variable; the next lemma states this for `type`
pub key_found : (entry : Entry)
    → get_member (codes "id") (with_variables (item_of_entry entry).fields (head_members (item_of_entry entry)))
    ≡ Some (string entry.key)
unfolding item_of_entry head_members
key_found entry =
    let last : place (codes "id") order ≡ 51 = refl in
    kept_after (codes "id") _ (omega (arith, last)) (all_in_order (type_of_entry entry) entry)
    ∙ get_member-put_other (codes "id") (codes "type") (string (item_type_name (type_of_entry entry)))
    (put (codes "id") (string entry.key) no_members) id_is_not_type
    ∙ get_member-put (codes "id") (string entry.key) no_members

pub type_found : (entry : Entry)
    → get_member (codes "type") (with_variables (item_of_entry entry).fields (head_members (item_of_entry entry)))
    ≡ Some (string (item_type_name (type_of_entry entry)))
unfolding item_of_entry head_members
type_found entry =
    let last : place (codes "type") order ≡ 51 = refl in
    kept_after (codes "type") _ (omega (arith, last)) (all_in_order (type_of_entry entry) entry)
    ∙ get_member-put (codes "type") (string (item_type_name (type_of_entry entry))) (put (codes "id") (string entry.key) no_members)
