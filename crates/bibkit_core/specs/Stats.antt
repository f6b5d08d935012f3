-- Meaning: words of public contracts.
-- The counts of entries, types, fields, years and findings.
use Rattle.std.specs.Prelude.{◌≡◌, ◌==◌, ◌&&◌, ℕ, Bool, ◌-◌, ◌^◌, min, not, if◌then◌else◌, List, [], ◌∷◌, ◌++◌, Option, Some, None, codes, length, map, string_bytes}
use Rattle.std.specs.Char.{is_ascii_digit}
use Rattle.std.specs.Fmt.{decimal}
use Rattle.std.specs.List.{before_first, flat_map, list_all}
use Rattle.std.specs.Option.{option_and_then, option_map_or, option_or}
use Rattle.std.specs.Str.{str_to_ascii_lowercase, trim}
use Rattle.bib_text.specs.Characters as char
use Rattle.bib_source.specs.declared.decoding.Decoded.{Decoded}
use Rattle.bib_findings.specs.Codes.{code_name}
use Rattle.bib_findings.specs.Entries.{last_named}
use Rattle.bib_findings.specs.Findings.{AreFindings}
use Rattle.bib_findings.specs.declared.finding.Finding.{Finding}
use Rattle.bib_syntax.specs.Reading.{EntryReading, FieldReading, FileReading, Piece}
use Rattle.bib_syntax.specs.Reading.Piece.{abbreviation, literal}
use Rattle.bib_syntax.specs.Recovery.{IsRecovery}
use Rattle.bib_syntax.specs.declared.raw.recovery.SkippedBlock.{SkippedBlock}
use Rattle.bibkit_core.specs.Tables.{AreByCount, AreByName, table_text}
use Rattle.bibkit_core.specs.Tasks.{AreDecoded}
use Rattle.bibkit_core.specs.declared.tables.Row.{Row}

-- the type of an entry with its ASCII letters in lowercase
abbrev pub type_name : EntryReading → List ℕ
type_name e = str_to_ascii_lowercase e.kind.text

-- the names of fields with their ASCII letters in lowercase
abbrev pub lowercase_names : List FieldReading → List (List ℕ)
lowercase_names fields = map (λ f. str_to_ascii_lowercase f.name.text) fields

-- the text of a literal without the white space around it, or `None` for an abbreviation
abbrev pub trimmed_literal : Piece → Option (List ℕ)
trimmed_literal (literal p) = Some (trim p.text)
trimmed_literal (abbreviation p) = None

-- the trimmed text of the first piece of a value; `None` if that is an abbreviation or missing
abbrev pub first_text : List Piece → Option (List ℕ)
first_text [] = None
first_text (p ∷ rest) = trimmed_literal p

-- the trimmed text of the first piece of the last field with this name; `None` if there is no such field, or its first piece isn't a
-- literal
abbrev pub text_of_last : List FieldReading → List ℕ → Option (List ℕ)
text_of_last fields name = option_and_then (λ f. first_text f.value.pieces) (last_named fields name)

-- the trimmed text of the first piece of the last field `date`, or of the last field `year` if `date` is missing or its first piece
-- isn't a literal
abbrev pub text_of_date : List FieldReading → Option (List ℕ)
text_of_date fields = option_or (text_of_last fields (codes "date")) (text_of_last fields (codes "year"))

-- the text before the first hyphen, or the whole text without one
abbrev pub before_hyphen : List ℕ → List ℕ
before_hyphen text = before_first (λ b. b == char.hyphen) text

-- the text before the first slash, or the whole text without one
abbrev pub before_slash : List ℕ → List ℕ
before_slash text = before_first (λ b. b == char.slash) text

-- whether a text is one or more ASCII digits
abbrev pub is_number : List ℕ → Bool
is_number text = not (length text == 0) && list_all is_ascii_digit text

-- the text before the first hyphen or slash (or the whole text without one) if it is one or more ASCII digits, otherwise `None`
abbrev pub leading_year : List ℕ → Option (List ℕ)
leading_year text = let year = before_slash (before_hyphen text) in if is_number year then Some year else None

-- the year of an entry with these fields: the leading year of the field `date`, or that of `year` if `date` is missing or doesn't begin
-- with a literal
abbrev pub year_in : List FieldReading → Option (List ℕ)
year_in fields = option_and_then leading_year (text_of_date fields)

-- the year of an entry with these fields, as a list with at most one element
abbrev pub years_in : List FieldReading → List (List ℕ)
years_in fields = option_map_or (λ year. year ∷ []) (year_in fields) []

-- the entries of the files so far that can be parsed, and the findings of their decoded texts
pub record FilesSoFar : Type 0 where
  pub entries : List EntryReading
  pub found : List Finding

-- no entries and no findings
abbrev pub none_counted : FilesSoFar
none_counted = record { entries = []; found = [] }

-- the text before the files: none
abbrev pub counted_begins : FilesSoFar → List ℕ
counted_begins before = []

-- `after` has the entries and findings in `before`, the entries of the file that can be parsed, and the findings of the file
pub record IsCountedWith (before : FilesSoFar) (bytes : List ℕ) (after : FilesSoFar) : Type 0 where
  pub decoded : Decoded
  pub says : FileReading
  pub skipped : List SkippedBlock
  pub found : List Finding
  pub of_bytes : AreDecoded bytes decoded
  pub recovery : IsRecovery (string_bytes decoded.text) says skipped
  pub are : AreFindings (string_bytes decoded.text) found
  pub after_is : after ≡ record { entries = before.entries ++ says.entries; found = before.found ++ found }

-- the output for a file is empty, and `after` also has the entries and findings of the file
abbrev pub PrintsCounted : FilesSoFar → List ℕ → List ℕ → List ℕ → FilesSoFar → Type 0
PrintsCounted before name bytes text after = (text ≡ []) × IsCountedWith before bytes after

-- the output after all files: the number of entries, and tables of types, fields, years and findings. The years are in the order of their
-- bytes. The other tables begin with the greatest count. The status is 0.
pub record EndsCounted (all : FilesSoFar) (text : List ℕ) (status : ℕ) : Type 0 where
  pub types : List Row
  pub fields : List Row
  pub years : List Row
  pub findings : List Row
  pub types_are : AreByCount (map type_name all.entries) types
  pub fields_are : AreByCount (flat_map (λ e. lowercase_names e.fields) all.entries) fields
  pub years_are : AreByName (flat_map (λ e. years_in e.fields) all.entries) years
  pub findings_are : AreByCount (map (λ f. code_name f.code) all.found) findings
  pub is : text ≡ codes "entries: " ++ (decimal (min (length all.entries) (2 ^ 64 - 1)) ++ (codes "\n"
      ++
      (table_text (codes "types") types
      ++
      (table_text (codes "fields") fields
      ++ (table_text (codes "years") years ++ table_text (codes "findings") findings)))))
  pub done : status ≡ 0
