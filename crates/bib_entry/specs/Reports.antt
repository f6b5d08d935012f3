-- Meaning: words of public contracts.
-- Reports on entries: the fields that the type requires and the entry lacks, and those that the type forbids and the entry
-- has. A report also contains the fields of `field_verdicts` and `date_verdicts` that can't be parsed. The rules are those
-- of the Rust crate `biblatex` for verifying entries.
use Rattle.std.specs.Prelude.{◌≡◌, ℕ, Bool, true, false, not, ◌&&◌, ◌||◌, List, [], ◌∷◌, ◌++◌, codes, Option, Some, None, is_some}
use Rattle.std.specs.List.{filter, AllZip}
use Rattle.std.specs.FinMap as by_name
use Rattle.std.specs.declared.ops.Range.{Range}
use Rattle.bib_tables.specs.declared.type_error.TypeError.{TypeError}
use Rattle.bib_tables.specs.declared.type_error.TypeErrorKind.{TypeErrorKind}
use Rattle.bib_tables.specs.declared.type_error.TypeErrorKind.TheVariants.{InvalidNumber, UnknownGender, UnknownPagination}
use Rattle.bib_tables.specs.Requirements.{Names, rules_of, forbidden_fields_of}
use Rattle.bib_tables.specs.declared.mechanics.requirements.AuthorMode.{AuthorMode}
use Rattle.bib_tables.specs.declared.mechanics.requirements.AuthorMode.TheVariants as author
use Rattle.bib_tables.specs.declared.mechanics.requirements.PagesChapterMode.{PagesChapterMode}
use Rattle.bib_tables.specs.declared.mechanics.requirements.PagesChapterMode.TheVariants as pages
use Rattle.bib_text.specs.Enums.{value_named}
use Rattle.bib_typed.specs.Typed.{number_error}
use Rattle.bib_values.specs.Enumerations.{pagination_read, gender_read}
use Rattle.bib_values.specs.Numbers.{number_read}
use Rattle.bib_values.specs.Ranges.{ranges_read}
use Rattle.bib_chunks.specs.Styled.{whole_span}
use Rattle.bib_chunks.specs.Values.{Value}
use Rattle.bib_dates.specs.Chunks.{three_fields_reading, three_fields_place}
use Rattle.bib_dates.specs.Readings.{Reading, IsUnreadKind}
use Rattle.bib_dates.specs.Readings.Reading.{says, error, unread as not_read}
use Rattle.bib_entry.specs.declared.entry.Entry.{Entry}

-- whether an entry has a field of this name
abbrev pub has_field : Entry → List ℕ → Bool
has_field entry name = is_some (by_name.get entry.fields name)

-- whether there is a field and it has at least one chunk
abbrev pub is_filled : Option Value → Bool
is_filled (Some (chunk ∷ chunks)) = true
is_filled _ = false

-- whether an entry has a field of this name with at least one chunk
abbrev pub has_chunks : Entry → List ℕ → Bool
has_chunks entry name = is_filled (by_name.get entry.fields name)

-- the other name of each required field that has one
abbrev pub other_required_names : List (List ℕ × List ℕ)
other_required_names =
    (codes "journaltitle", codes "journal") ∷ (codes "location", codes "address")
    ∷ (codes "school", codes "institution") ∷ []

-- whether there is another name and its field has chunks
abbrev pub has_other : Entry → Option (List ℕ) → Bool
has_other entry None = false
has_other entry (Some name) = has_chunks entry name

-- whether an entry has no chunks in the field of this name, nor in the field of its other name, if it has one
abbrev pub lacks : Entry → List ℕ → Bool
lacks entry name = not (has_chunks entry name || has_other entry (value_named other_required_names name))

-- whether an entry has one of the four fields of editors
abbrev pub has_editor : Entry → Bool
has_editor entry =
    has_field entry (codes "editor")
    ||
    (has_field entry (codes "editora")
    || (has_field entry (codes "editorb") || has_field entry (codes "editorc")))

-- the name if it is reported, and nothing otherwise
abbrev pub only_if : Bool → List ℕ → Names
only_if true name = name ∷ []
only_if false name = []

-- the missing people under a rule; the flags say whether the entry has an author and whether it has an editor
abbrev pub missing_people : AuthorMode → Bool → Bool → Names
missing_people author.NoneRequired has_author has_editor = []
missing_people author.OneRequired has_author has_editor = only_if (not (has_author || has_editor)) (codes "author")
missing_people author.BothRequired has_author has_editor =
    only_if (not has_editor) (codes "editor") ++ only_if (not has_author) (codes "author")
missing_people author.AuthorRequired has_author has_editor = only_if (not has_author) (codes "author")
missing_people author.AuthorRequiredEditorOptional has_author has_editor = only_if (not has_author) (codes "author")
missing_people author.EditorRequiredAuthorForbidden has_author has_editor = only_if (not has_editor) (codes "editor")

-- the missing pages under a rule; the flags say whether the entry has pages and whether it has a chapter
abbrev pub missing_pages : PagesChapterMode → Bool → Bool → Names
missing_pages pages.OneRequired has_pages has_chapter = only_if (not (has_pages || has_chapter)) (codes "pages")
missing_pages pages.PagesRequired has_pages has_chapter = only_if (not has_pages) (codes "pages")
missing_pages _ has_pages has_chapter = []

-- the missing year: `year` if a date is required and the entry has neither `date` nor `year`
abbrev pub missing_date : Bool → Entry → Names
missing_date needs_date entry =
    only_if (needs_date && not (has_field entry (codes "date") || has_field entry (codes "year"))) (codes "year")

-- the missing fields: those that the type requires, then authors and editors, pages, and the year
abbrev pub missing_of : Entry → Names
missing_of entry =
    ((filter (lacks entry) (rules_of entry.entry_type).required
    ++ missing_people (rules_of entry.entry_type).author (has_field entry (codes "author")) (has_editor entry))
    ++ missing_pages (rules_of entry.entry_type).pages (has_field entry (codes "pages")) (has_field entry (codes "chapter")))
    ++ missing_date (rules_of entry.entry_type).needs_date entry

-- the author, if a rule forbids it and the entry has one
abbrev pub superfluous_people : AuthorMode → Entry → Names
superfluous_people author.EditorRequiredAuthorForbidden entry = only_if (has_field entry (codes "author")) (codes "author")
superfluous_people _ entry = []

-- the pages and the chapter, if a rule forbids them and the entry has them
abbrev pub superfluous_pages : PagesChapterMode → Entry → Names
superfluous_pages pages.BothForbidden entry =
    only_if (has_field entry (codes "pages")) (codes "pages")
    ++ only_if (has_field entry (codes "chapter")) (codes "chapter")
superfluous_pages _ entry = []

-- the superfluous fields: those that the type forbids and that have chunks, then the author, the pages and the chapter
abbrev pub superfluous_of : Entry → Names
superfluous_of entry =
    (filter (has_chunks entry) (forbidden_fields_of entry.entry_type)
    ++ superfluous_people (rules_of entry.entry_type).author entry)
    ++ superfluous_pages (rules_of entry.entry_type).pages entry

-- the verdict on a field. It is `fine` if the field is missing or can be parsed, and `refused` for an error of this kind at
-- this span. It is `unread` for an error of an unspecified kind at this span
pub data Verdict : Type 0 where
  fine : Verdict
  refused : TypeErrorKind → Range ℕ → Verdict
  unread : Range ℕ → Verdict

-- the verdict on chunks: fine if they can be parsed as a value, and otherwise an error with this kind and this span
abbrev pub read_or : {M : Type 0} → Option M → TypeErrorKind → Range ℕ → Verdict
read_or (Some m) kind place = fine
read_or None kind place = refused kind place

-- the verdict on a field, if there is one; `reads` parses it, and `reason` is the kind of its error, at the span of all its chunks
abbrev pub verdict : {M : Type 0} → (Value → Option M) → (Value → TypeErrorKind) → Option Value → Verdict
verdict reads reason None = fine
verdict reads reason (Some chunks) = read_or (reads chunks) (reason chunks) (whole_span chunks)

-- the fields that must have a certain type, in the order of the bytes of their names, each with its verdict
abbrev pub field_verdicts : Entry → List (List ℕ × Verdict)
field_verdicts entry =
    (codes "bookpagination", verdict pagination_read (λ _. UnknownPagination) (by_name.get entry.fields (codes "bookpagination"))) ∷
    (codes "gender", verdict gender_read (λ _. UnknownGender) (by_name.get entry.fields (codes "gender"))) ∷
    (codes "pages", verdict ranges_read (λ _. InvalidNumber) (by_name.get entry.fields (codes "pages"))) ∷
    (codes "pagination", verdict pagination_read (λ _. UnknownPagination) (by_name.get entry.fields (codes "pagination"))) ∷
    (codes "volume", verdict number_read number_error (by_name.get entry.fields (codes "volume"))) ∷
    (codes "volumes", verdict number_read number_error (by_name.get entry.fields (codes "volumes"))) ∷ []

-- the verdict on the result of parsing a date; `place` is the span of its error
abbrev pub date_verdict : {A : Type 0} → Reading A → Range ℕ → Verdict
date_verdict (says a) place = fine
date_verdict (error kind) place = refused kind place
date_verdict not_read place = unread place

-- the verdict on a date, from its field and those of its year, month and day. A date in one field is always fine, and so is
-- a date without a year. Otherwise the three fields must be a date
abbrev pub fields_verdict : Option Value → Option Value → Option Value → Option Value → Verdict
fields_verdict (Some date) year month day = fine
fields_verdict None None month day = fine
fields_verdict None (Some year) month day = date_verdict (three_fields_reading year month day) (three_fields_place year month day)

-- the name of the date with this prefix, and its verdict
abbrev pub prefix_verdict : Entry → List ℕ → List ℕ × Verdict
prefix_verdict entry prefix = (
  prefix ++ codes "date",
  fields_verdict (by_name.get entry.fields (prefix ++ codes "date")) (by_name.get entry.fields (prefix ++ codes "year"))
      (by_name.get entry.fields (prefix ++ codes "month")) (by_name.get entry.fields (prefix ++ codes "day")),
)

-- the dates of an entry, each with its verdict
abbrev pub date_verdicts : Entry → List (List ℕ × Verdict)
date_verdicts entry =
    prefix_verdict entry [] ∷ prefix_verdict entry (codes "url") ∷ prefix_verdict entry (codes "orig")
    ∷ prefix_verdict entry (codes "event") ∷ []

-- whether a verdict reports an error
abbrev pub is_error : List ℕ × Verdict → Bool
is_error (name, fine) = false
is_error (name, refused kind place) = true
is_error (name, unread place) = true

-- the errors that a verdict allows: if it names no kind, those of the four kinds of `IsUnreadKind`
abbrev pub Allows : Verdict → TypeError → Type 0
Allows fine e = ⊥
Allows (refused kind place) e = (e.kind ≡ kind) × (e.span ≡ place)
Allows (unread place) e = IsUnreadKind e.kind × (e.span ≡ place)

-- a reported error has the name of the field and is allowed by its verdict
abbrev pub IsErrorOfField : List ℕ × Verdict → List ℕ × TypeError → Type 0
IsErrorOfField said reported = (reported.0 ≡ said.0) × Allows said.1 reported.1

-- the errors of an entry in order: of the fields that must have a certain type, then of the dates. There is one for each
-- verdict that reports an error
abbrev pub AreMalformed : Entry → List (List ℕ × TypeError) → Type 0
AreMalformed entry reported = AllZip IsErrorOfField (filter is_error (field_verdicts entry ++ date_verdicts entry)) reported
