-- Meaning: words of public contracts.
-- The field names that BibLaTeX knows, and the findings of fields with a misspelled one.
use Rattle.std.specs.Prelude.{ℕ, Bool, not, ◌==◌, ◌&&◌, ◌||◌, List, [], ◌∷◌, ◌++◌, codes, is_some, Option, if◌then◌else◌}
use Rattle.std.specs.List.{after_first, before_first, flat_map}
use Rattle.std.specs.Option.{option_map_or}
use Rattle.std.specs.Str.{str_eq_ignore_ascii_case, str_to_ascii_lowercase}
use Rattle.bib_text.specs.Characters as char
use Rattle.bib_tables.specs.Requirements.{Names, fields}
use Rattle.bib_syntax.specs.Reading.{EntryReading, FieldReading}
use Rattle.bib_findings.specs.Entries.{part_range}
use Rattle.bib_findings.specs.Errors.{finding_at}
use Rattle.bib_findings.specs.Foreign.{begins_in_any_case, is_foreign}
use Rattle.bib_findings.specs.Nearest.{is_known_name, suggestion, unknown_message}
use Rattle.bib_findings.specs.declared.codes.Code.TheVariants.{UnknownField}
use Rattle.bib_findings.specs.declared.finding.Finding.{Finding}

-- the fields of BibLaTeX's default data model (manual, 2.2), without the custom ones; also the names that BibLaTeX accepts from BibTeX
-- (2.2.5), and the parts of dates
abbrev pub known_fields : Names
known_fields = fields "abstract addendum address afterword annotation annotator annote archiveprefix author authortype bookauthor"
    ++ (fields "bookpagination booksubtitle booktitle booktitleaddon chapter commentator crossref date day doi edition editor editora"
    ++ (fields "editoratype editorb editorbtype editorc editorctype editortype eid endday endmonth endyear entryset entrysubtype"
    ++ (fields "eprint eprintclass eprinttype eventdate eventday eventmonth eventtitle eventtitleaddon eventyear execute file foreword"
    ++ (fields "gender holder howpublished hyphenation ids indexsorttitle indextitle institution introduction isan isbn ismn isrn issn"
    ++ (fields "issue issuesubtitle issuetitle issuetitleaddon iswc journal journalsubtitle journaltitle journaltitleaddon key"
    ++ (fields "keywords label langid langidopts language library location mainsubtitle maintitle maintitleaddon month nameaddon note"
    ++ (fields "number options organization origdate origday origlanguage origlocation origmonth origpublisher origtitle origyear"
    ++ (fields "pages pagetotal pagination part pdf presort primaryclass publisher pubstate related relatedoptions relatedstring"
    ++ (fields "relatedtype reprinttitle school series shortauthor shorteditor shorthand shorthandintro shortjournal shortseries"
    ++ (fields "shorttitle sortkey sortname sortshorthand sorttitle sortyear subtitle title titleaddon translator type url urldate"
    ++ (fields "urlday urlmonth urlyear venue version volume volumes xdata xref year hour minute second timezone yeardivision endhour"
    ++ (fields "endminute endsecond endtimezone endyeardivision eventhour eventminute eventsecond eventtimezone eventyeardivision"
    ++ (fields "eventendyear eventendmonth eventendday eventendhour eventendminute eventendsecond eventendtimezone"
    ++ (fields "eventendyeardivision orighour origminute origsecond origtimezone origyeardivision origendyear origendmonth origendday"
    ++ (fields "origendhour origendminute origendsecond origendtimezone origendyeardivision urlhour urlminute urlsecond urltimezone"
    ++ (fields "urlyeardivision urlendyear urlendmonth urlendday urlendhour urlendminute urlendsecond urlendtimezone"
    ++ fields "urlendyeardivision"))))))))))))))))

-- the fields of BibLaTeX's data model whose meaning a style chooses (manual, 2.2.4)
abbrev pub custom_fields : Names
custom_fields = fields "lista listb listc listd liste listf namea nameatype nameb namebtype namec namectype"
    ++ fields "usera userb userc userd usere userf verba verbb verbc"

-- whether a name is one of the known or of the custom fields, in any ASCII case
abbrev pub is_in_model : List ℕ → Bool
is_in_model name = is_known_name known_fields name || is_known_name custom_fields name

-- whether the text after a plus sign in a field name marks a data annotation: BibLaTeX's marker `an` in any ASCII case, and maybe a name
-- after a colon
abbrev pub is_annotation_mark : List ℕ → Bool
is_annotation_mark mark = str_eq_ignore_ascii_case mark (codes "an") || begins_in_any_case (codes "an:") mark

-- the field that a field is about: without the mark, if the field is a data annotation such as `author+an` (manual, 3.7)
abbrev pub annotated_name : List ℕ → List ℕ
annotated_name name =
    if is_annotation_mark (after_first (λ b. b == char.plus) name) then before_first (λ b. b == char.plus) name else name

-- whether BibLaTeX knows a field of this name, in any ASCII case
abbrev pub is_known_field : List ℕ → Bool
is_known_field name = is_in_model (annotated_name name)

-- the known name that a field name may mean
unfoldable pub meant_field : List ℕ → Option (List ℕ)
meant_field name = suggestion known_fields (str_to_ascii_lowercase name)

-- whether there is a known name that a field name may mean
abbrev pub has_suggestion : List ℕ → Bool
has_suggestion name = is_some (meant_field name)

-- whether a field name is neither known to BibLaTeX nor used by other programs
abbrev pub is_unknown_field : List ℕ → Bool
is_unknown_field name = not (is_known_field name) && not (is_foreign name)

-- the finding of an unknown field of the entry with this key, at the field's name, with the known name that it may mean
abbrev pub misspelled_finding : List ℕ → FieldReading → List ℕ → Finding
misspelled_finding key f known =
    finding_at UnknownField (part_range f.name) (unknown_message key (codes "unknown field") f.name.text known)

-- the same if there is such a known name
abbrev pub meant_findings : List ℕ → FieldReading → Option (List ℕ) → List Finding
meant_findings key f meant = option_map_or (λ known. misspelled_finding key f known ∷ []) meant []

-- the finding of a field of the entry with this key, if its name is unknown and may mean a known one
unfoldable pub misspelled_of : List ℕ → FieldReading → List Finding
misspelled_of key f = if is_unknown_field f.name.text then meant_findings key f (meant_field f.name.text) else []

-- the findings of the misspelled fields of an entry. Other unknown fields are reported once in a file
abbrev pub misspelled_findings : EntryReading → List Finding
misspelled_findings said = flat_map (misspelled_of said.key.text) said.fields
