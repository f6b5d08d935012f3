-- Meaning: words of public contracts.
-- The findings of the report on an entry: missing, superfluous and malformed fields.
use Rattle.std.specs.Prelude.{◌≡◌, ℕ, Bool, true, false, not, ◌&&◌, ◌||◌, List, [], ◌∷◌, ◌++◌, bytes_eq, codes, if◌then◌else◌, map}
use Rattle.std.specs.Char.{is_ascii_alphanumeric}
use Rattle.std.specs.FinMap as by_name
use Rattle.std.specs.List.{filter}
use Rattle.std.specs.Option.{option_map_or}
use Rattle.std.specs.Str.{trim}
use Rattle.std.specs.declared.ops.Range.{Range}
use Rattle.bib_tables.specs.Requirements.{Names}
use Rattle.bib_tables.specs.TypeError.{type_kind_text}
use Rattle.bib_tables.specs.declared.mechanics.EntryType.{EntryType}
use Rattle.bib_tables.specs.declared.mechanics.EntryType.TheVariants.{MvBook, MvCollection, MvReference, Unknown}
use Rattle.bib_tables.specs.declared.type_error.TypeError.{TypeError}
use Rattle.bib_chunks.specs.Values.{Value, text}
use Rattle.bib_entry.specs.Reports.{AreMalformed, superfluous_of}
use Rattle.bib_entry.specs.declared.entry.Entry.{Entry}
use Rattle.bib_syntax.specs.Reading.{EntryReading}
use Rattle.bib_findings.specs.DateParts.{malformed_part}
use Rattle.bib_findings.specs.Demands.{missing_fields}
use Rattle.bib_findings.specs.Entries.{field_finding, field_message, field_place, has_own_field, is_empty_value, last_named, range_or}
use Rattle.bib_findings.specs.Errors.{finding_at}
use Rattle.bib_findings.specs.Identities.{own_literal}
use Rattle.bib_findings.specs.OtherDigits.{are_other_digits, begins_with_other_digit}
use Rattle.bib_findings.specs.VolumeLabels.{is_volume_label}
use Rattle.bib_findings.specs.declared.codes.Code.{Code}
use Rattle.bib_findings.specs.declared.codes.Code.TheVariants as code
use Rattle.bib_findings.specs.declared.finding.Finding.{Finding}

-- the place of a malformed field: its name, or the field that can't be parsed if it is a date in separate fields, or else the entry's key
abbrev pub malformed_place : EntryReading → Entry → List ℕ → Range ℕ
malformed_place said entry name = range_or (field_place said (malformed_part entry name)) (last_named said.fields name)

-- whether an error of the field of this name is only information
abbrev pub is_printed_anyway : List ℕ → Bool
is_printed_anyway name = bytes_eq name (codes "pages") || bytes_eq name (codes "volume")

-- the code of a malformed field
abbrev pub malformed_code : List ℕ → Code
malformed_code name = if is_printed_anyway name then code.NotANumber else code.MalformedField

-- the finding of a field that can't be parsed as a value of its type, with the kind of the error
abbrev pub malformed_finding : EntryReading → Entry → List ℕ × TypeError → Finding
malformed_finding said entry e =
    finding_at (malformed_code e.0) (malformed_place said entry e.0)
    (field_message said.key.text (codes "malformed") (e.0 ++ (codes ": " ++ type_kind_text e.1.kind)))

-- the gender of several people of both genders, which BibLaTeX knows (manual, 2.2.3)
abbrev pub plural_gender : List ℕ
plural_gender = codes "pp"

-- whether a text begins with an ASCII letter or digit
abbrev pub begins_alphanumeric : List ℕ → Bool
begins_alphanumeric [] = false
begins_alphanumeric (b ∷ rest) = is_ascii_alphanumeric b

-- whether a text begins with an ASCII letter, or with a digit of any script
abbrev pub begins_like_pages : List ℕ → Bool
begins_like_pages text = begins_alphanumeric text || begins_with_other_digit text

-- whether BibLaTeX knows the text of a field or prints it as it is, although it can't be parsed: the gender `pp`, and pages that begin with
-- an ASCII letter or a digit, such as `12A` or `xiv + 447`. Biber warns of ranges of pages without a start.
abbrev pub is_known_text : List ℕ → List ℕ → Bool
is_known_text name text =
    (bytes_eq name (codes "gender") && bytes_eq text plural_gender) || (bytes_eq name (codes "pages") && begins_like_pages text)

-- whether the text of a value without the white space around it is a usual label of a volume
abbrev pub is_label_value : Value → Bool
is_label_value chunks = is_volume_label (trim (text chunks))

-- whether the field is the volume of an entry, which may be inherited, and is a usual label
abbrev pub has_usual_label : Entry → List ℕ → Bool
has_usual_label entry name =
    bytes_eq name (codes "volume") && option_map_or is_label_value (by_name.get entry.fields name) false

-- whether an entry has a field of this name in the file, and the last one is empty
abbrev pub has_empty : EntryReading → List ℕ → Bool
has_empty said name = option_map_or is_empty_value (last_named said.fields name) false

-- whether the field of this name is empty or, for a date in separate fields, the field that can't be parsed
abbrev pub is_empty_field : EntryReading → Entry → List ℕ → Bool
is_empty_field said entry name = has_empty said name || has_empty said (malformed_part entry name)

-- whether the field is `date`, and the year of the entry is a number in the digits of another script, which Biber reads
abbrev pub has_year_in_other_digits : EntryReading → List ℕ → Bool
has_year_in_other_digits said name = bytes_eq name (codes "date") && are_other_digits (trim (own_literal said (codes "year")))

-- whether the error of a field is reported. An empty field isn't malformed. A text that BibLaTeX knows or prints as it is, a usual label
-- of a volume, and a year that Biber reads aren't reported
abbrev pub is_reported_field : EntryReading → Entry → List ℕ → Bool
is_reported_field said entry name =
    not (is_known_text name (own_literal said name) || has_year_in_other_digits said name)
    && (not (has_usual_label entry name) && not (is_empty_field said entry name))

-- the findings of the malformed fields whose errors are reported
abbrev pub malformed_findings : EntryReading → Entry → List (List ℕ × TypeError) → List Finding
malformed_findings said entry errors = map (malformed_finding said entry) (filter (λ e. is_reported_field said entry e.0) errors)

-- whether a type isn't one of those whose fields are known
abbrev pub is_unknown_type : EntryType → Bool
is_unknown_type (Unknown name) = true
is_unknown_type _ = false

-- whether BibLaTeX's data model has a field for a type, although the library's rules for the type forbid the field
abbrev pub is_in_data_model : EntryType → List ℕ → Bool
is_in_data_model MvBook name = bytes_eq name (codes "volume")
is_in_data_model MvCollection name = bytes_eq name (codes "volume") || bytes_eq name (codes "author")
is_in_data_model MvReference name = bytes_eq name (codes "volume") || bytes_eq name (codes "author")
is_in_data_model _ name = false

-- the superfluous fields of an entry, except those in the data model; none if its type isn't one whose fields are known
abbrev pub superfluous_fields : Entry → List (List ℕ)
superfluous_fields entry =
    if is_unknown_type entry.entry_type then []
    else filter (λ name. not (is_in_data_model entry.entry_type name)) (superfluous_of entry)

-- the missing fields that are reported: none if fields of the entry may be lost
abbrev pub reported_missing : Bool → EntryReading → Entry → Names
reported_missing may_lack said entry = if may_lack then [] else missing_fields said entry

-- the word for the problem of a required field of which the entry has no value
abbrev pub lacking_word : EntryReading → List ℕ → List ℕ
lacking_word said name = if has_own_field said name then codes "empty" else codes "missing"

-- the finding of a required field of which the entry has no value: at the field if it is empty
abbrev pub lacking_finding : EntryReading → List ℕ → Finding
lacking_finding said name = field_finding said code.MissingField (lacking_word said name) name

-- the findings of a report: first of the missing fields, then of the superfluous ones, then of the malformed ones
abbrev pub report_findings : Names → EntryReading → Entry → List (List ℕ × TypeError) → List Finding
report_findings missing said entry errors =
    map (lacking_finding said) missing
    ++ (map (field_finding said code.SuperfluousField (codes "superfluous")) (superfluous_fields entry)
    ++ malformed_findings said entry errors)

-- whether these are the findings of the report on an entry, with its raw form `said` and these missing fields
pub record AreOfReport (missing : Names) (said : EntryReading) (entry : Entry) (found : List Finding) : Type 0 where
  pub errors : List (List ℕ × TypeError)
  pub malformed : AreMalformed entry errors
  pub are : found ≡ report_findings missing said entry errors
