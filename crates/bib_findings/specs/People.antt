-- Meaning: words of public contracts.
-- The findings of fields with names of people that Biber or BibTeX can't read as they are meant.
use Rattle.std.specs.Prelude.{ℕ, Bool, ◌==◌, ◌||◌, List, [], ◌∷◌, ◌++◌, codes, count_by, eqb, length, nat_eq, nat_lt, Option, Some, None, if◌then◌else◌}
use Rattle.std.specs.List.{ends_with, flat_map, slice_split, starts_with}
use Rattle.std.specs.Option.{option_map_or, option_or}
use Rattle.std.specs.Str.{trim}
use Rattle.bib_text.specs.Characters as char
use Rattle.bib_queries.specs.Answers.{has_part}
use Rattle.bib_tables.specs.Requirements.{Names, fields}
use Rattle.bib_syntax.specs.Reading.{EntryReading, FieldReading}
use Rattle.bib_findings.specs.Entries.{part_range}
use Rattle.bib_findings.specs.Errors.{finding_at}
use Rattle.bib_findings.specs.Fields.{named_message}
use Rattle.bib_findings.specs.Identities.{is_between_people, literal_text, plain_words}
use Rattle.bib_findings.specs.Nearest.{is_known_name}
use Rattle.bib_findings.specs.Outside.{outside_braces}
use Rattle.bib_findings.specs.declared.codes.Code.TheVariants.{MalformedName}
use Rattle.bib_findings.specs.declared.finding.Finding.{Finding}
use Rattle.bib_findings.specs.declared.people.Fault.{Fault}
use Rattle.bib_findings.specs.declared.people.Fault.TheVariants.{Empty, ManyCommas, CommaFirst, CommaLast, EtAl, Semicolon}

-- the fields with names of people
abbrev pub person_fields : Names
person_fields =
    fields "afterword annotator author bookauthor commentator editor editora editorb editorc foreword holder introduction"
    ++ fields "shortauthor shorteditor translator"

-- a word and a space, or a line feed for the word `and`; nothing for an empty word
abbrev pub word_in_lines : List ℕ → List ℕ
word_in_lines word =
    if length word == 0 then [] else if is_between_people word then codes "\n" else word ++ codes " "

-- a list of people in lowercase: the words of each person, each followed by a space, with a line feed between people. An `x` replaces each
-- pair of braces with its contents.
abbrev pub lines_of_people : List ℕ → List ℕ
lines_of_people text = flat_map word_in_lines (slice_split (λ b. b == char.space) (plain_words (outside_braces text)))

-- the people in these lines
abbrev pub people_in : List ℕ → List (List ℕ)
people_in lines = slice_split (λ b. b == char.line_feed) lines

-- whether a name begins with a phrase, or contains it after a space
abbrev pub has_phrase : List ℕ → List ℕ → Bool
has_phrase name phrase = starts_with eqb name phrase || has_part (codes " " ++ phrase) name

-- the first fault of the words of a person, if they have one. If a name has more than two commas, Biber skips the
-- entry, and BibTeX reports an error. Biber stops at a name that begins with a comma. Both report a comma at the end.
abbrev pub fault_of_words : List ℕ → Option Fault
fault_of_words name =
    if nat_lt 2 (count_by (nat_eq char.comma) name) then Some ManyCommas
    else if starts_with eqb name (codes ",") then Some CommaFirst
    else if ends_with eqb name (codes ", ") then Some CommaLast
    else if has_phrase name (codes "et al ") || has_phrase name (codes "et al. ") then Some EtAl
    else if has_part (codes ";") name then Some Semicolon
    else None

-- the fault of a name, if it has one. Biber skips an entry with an empty name between two words `and`. It takes an `and` at the start or
-- the end of the list for a part of a name. A name with an equals sign may have BibLaTeX's extended form, and isn't tested.
abbrev pub fault_of : List ℕ → Option Fault
fault_of name = if length name == 0 then Some Empty else if has_part (codes "=") name then None else fault_of_words name

-- the fault of the first person with a fault, if there is one
abbrev pub first_fault : List (List ℕ) → Option Fault
first_fault [] = None
first_fault (name ∷ names) = option_or (fault_of name) (first_fault names)

-- the first fault in a list of people, if there is one; a blank text has no people
abbrev pub fault_in : List ℕ → Option Fault
fault_in text = if length (trim text) == 0 then None else first_fault (people_in (lines_of_people text))

-- the words of a message before the name of the field
abbrev pub before_field : Fault → List ℕ
before_field Empty = codes "empty name beside `and` in "
before_field ManyCommas = codes "name with more than two commas in "
before_field CommaFirst = codes "name that begins with a comma in "
before_field CommaLast = codes "name that ends with a comma in "
before_field EtAl = codes "`et al.` in "
before_field Semicolon = codes "semicolon in "

-- the words of a message after the name of the field
abbrev pub after_field : Fault → List ℕ
after_field EtAl = codes "; write `and others`"
after_field ManyCommas = codes "; names are separated by `and`"
after_field Semicolon = codes "; names are separated by `and`"
after_field _ = []

-- the finding of a field with this fault, at the name of the field
abbrev pub name_finding : List ℕ → FieldReading → Fault → Finding
name_finding key f fault =
    finding_at MalformedName (part_range f.name) (named_message key (before_field fault) f.name.text (after_field fault))

-- the finding of a field of the entry with this key, if it contains people and its value is one literal with a malformed name
abbrev pub malformed_names : List ℕ → FieldReading → List Finding
malformed_names key f =
    if is_known_name person_fields f.name.text
    then option_map_or (λ fault. name_finding key f fault ∷ []) (fault_in (literal_text f.value.pieces)) []
    else []

-- the findings of the malformed names of an entry
abbrev pub name_findings : EntryReading → List Finding
name_findings said = flat_map (malformed_names said.key.text) said.fields
