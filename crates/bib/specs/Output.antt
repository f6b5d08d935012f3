-- Meaning: words of public contracts.
-- The output of the program, and its exit status.
use Rattle.std.specs.Prelude.{◌≡◌, ◌≢◌, ℕ, Bool, if◌then◌else◌, List, [], ◌∷◌, ◌++◌, codes, map, All, Option, Some, None, IfSome, MatchOption}
use Rattle.std.specs.Fmt.{decimal, debug_str}
use Rattle.std.specs.declared.ops.Range.{Range}
use Rattle.std.specs.List.{flat_map}
use Rattle.std.specs.Str.{IsUtf8}
use Rattle.biblatex.specs.Headline.{IsAcceptedText, IsBibliographyOf, IsErrorOf}
use Rattle.biblatex.specs.Syntax.{IsReported, error_text, IsFile, IsRawReading, FileReading, ParseError, ParseErrorKind, Entry, Bibliography, AreSettled, biblatex_entry, bibtex_entry, entries_text, TypeError, type_kind_text, missing_of, superfluous_of, AreMalformed}
use Rattle.biblatex.specs.Syntax.{UnknownAbbreviation, DuplicateKey, AbbreviationCycle, ReferenceCycle}
use Rattle.bib.specs.declared.run.Command.{Command}
use Rattle.bib.specs.declared.run.Command.TheVariants.{Keys, Biblatex, Bibtex, Check, Settled}

-- a text and a line feed
abbrev pub line : List ℕ → List ℕ
line text = text ++ codes "\n"

-- the line that shows how to call the program
abbrev pub usage : List ℕ
usage = line (codes "usage: bib keys|biblatex|bibtex|check|settled")

-- the line of an error with this text
abbrev pub error_line : List ℕ → List ℕ
error_line text = codes "error: " ++ line text

-- the line of the error for bytes that are not UTF-8
abbrev pub not_utf8 : List ℕ
not_utf8 = error_line (codes "input is not UTF-8")

-- the words before the quoted name in the line of an error, and the name, for the kinds that quote one
abbrev pub words_and_name : ParseErrorKind → Option (List ℕ × List ℕ)
words_and_name (UnknownAbbreviation name) = Some (codes "unknown abbreviation ", name)
words_and_name (DuplicateKey key) = Some (codes "duplicate key ", key)
words_and_name (AbbreviationCycle name) = Some (codes "circular abbreviation ", name)
words_and_name (ReferenceCycle key) = Some (codes "circular reference ", key)
words_and_name _ = None

-- the line of an error that quotes a name. The form of the quoted name is specified only for ASCII names
pub record IsQuotingLine (said : List ℕ × List ℕ) (span : Range ℕ) (text : List ℕ) : Type 0 where
  pub quoted : List ℕ
  pub exact : IfSome (debug_str said.1) (λ listed. quoted ≡ listed)
  pub is : text ≡ codes "error: " ++ (said.0 ++ (quoted ++ (codes ": " ++ (decimal span.start ++ (codes "-" ++ line (decimal span.end))))))

-- `text` is the line of an error. If the kind of the error contains a name, the line quotes it. Otherwise the line has the
-- text of the error; if that text isn't specified, any `text` is allowed
abbrev pub ShowsError : ParseError → List ℕ → Type 0
ShowsError e text =
    MatchOption (words_and_name e.kind) (IfSome (error_text e) (λ listed. text ≡ error_line listed))
    (λ said. IsQuotingLine said e.span text)

-- the key of each entry on a line of its own, in the order of the file
abbrev pub key_lines : FileReading → List ℕ
key_lines says = flat_map (λ e. line e.key.text) says.entries

-- the output and the exit status of the command `keys` for these bytes
pub data IsKeysAnswer (bytes : List ℕ) : List ℕ → ℕ → Type 0 where
  no_text : (IsUtf8 bytes → ⊥) → IsKeysAnswer bytes not_utf8 1
  no_file : {e : ParseError} {text : List ℕ} → IsUtf8 bytes → IsReported bytes e → (IsFile bytes → ⊥)
      → ShowsError e text → IsKeysAnswer bytes text 1
  keys : {says : FileReading} → IsUtf8 bytes → IsRawReading bytes says → IsKeysAnswer bytes (key_lines says) 0

-- `text` is the line of an error of these bytes, which are not accepted
pub record ShowsNoBibliography (bytes text : List ℕ) : Type 0 where
  pub error : ParseError
  pub of_text : IsErrorOf bytes error
  pub refused : IsAcceptedText bytes → ⊥
  pub listed : ShowsError error text

-- the output and the exit status, for these bytes, of a command that parses a bibliography; `shows` relates a bibliography to both
pub data IsBibliographyAnswer (shows : Bibliography → List ℕ → ℕ → Type 0) (bytes : List ℕ) : List ℕ → ℕ → Type 0 where
  no_text : (IsUtf8 bytes → ⊥) → IsBibliographyAnswer shows bytes not_utf8 1
  no_bibliography : {text : List ℕ} → IsUtf8 bytes → ShowsNoBibliography bytes text → IsBibliographyAnswer shows bytes text 1
  shown : {bibliography : Bibliography} {text : List ℕ} {status : ℕ} → IsUtf8 bytes
      → IsBibliographyOf bytes bibliography → shows bibliography text status
      → IsBibliographyAnswer shows bytes text status

-- the output is the bibliography in BibLaTeX's types and fields, and the status is 0
pub record ShowsBiblatex (bibliography : Bibliography) (printed : List ℕ) (status : ℕ) : Type 0 where
  pub text : printed ≡ entries_text biblatex_entry bibliography.entries
  pub done : status ≡ 0

-- the output is the bibliography in BibTeX's types and fields, and the status is 0
pub record ShowsBibtex (bibliography : Bibliography) (printed : List ℕ) (status : ℕ) : Type 0 where
  pub text : printed ≡ entries_text bibtex_entry bibliography.entries
  pub done : status ≡ 0

-- a line of a report: the key of an entry, the kind of the problem, and the field
abbrev pub field_line : List ℕ → List ℕ → List ℕ → List ℕ
field_line key wrong field = key ++ (codes ": " ++ (wrong ++ (codes " " ++ line field)))

-- the line of a field that can't be parsed, with the kind of its error
abbrev pub malformed_line : List ℕ → List ℕ × TypeError → List ℕ
malformed_line key error_answer = field_line key (codes "malformed") (error_answer.0 ++ (codes ": " ++ type_kind_text error_answer.1.kind))

-- a report: an entry, and the errors of its fields
abbrev pub EntryReport : Type 0
EntryReport = Entry × List (List ℕ × TypeError)

-- the lines of a report: the missing fields, the superfluous fields, and the fields that can't be parsed, one on each line
abbrev pub report_lines : EntryReport → List ℕ
report_lines report =
    flat_map (field_line report.0.key (codes "missing")) (missing_of report.0)
    ++ (flat_map (field_line report.0.key (codes "superfluous")) (superfluous_of report.0)
    ++ flat_map (malformed_line report.0.key) report.1)

-- the errors of a report are those of its entry, each with a kind that its field allows
abbrev pub IsReport : EntryReport → Type 0
IsReport report = AreMalformed report.0 report.1

-- `printed` is a report on each of these entries, in order
pub record AreReported (entries : List Entry) (printed : List ℕ) : Type 0 where
  pub reports : List EntryReport
  pub listed : map (λ report. report.0) reports ≡ entries
  pub allowed : All IsReport reports
  pub text : printed ≡ flat_map report_lines reports

-- the output is the reports on the entries; the status is 0 if it is empty, and 4 otherwise
pub data ShowsReports (bibliography : Bibliography) : List ℕ → ℕ → Type 0 where
  clean : AreReported bibliography.entries [] → ShowsReports bibliography [] 0
  listed : {printed : List ℕ} → AreReported bibliography.entries printed → printed ≢ [] → ShowsReports bibliography printed 4

-- the output and the exit status for whether the bibliography is settled
pub data ShowsSettled (bibliography : Bibliography) : List ℕ → ℕ → Type 0 where
  settled : AreSettled bibliography.entries → ShowsSettled bibliography (line (codes "settled")) 0
  unsettled : (AreSettled bibliography.entries → ⊥) → ShowsSettled bibliography (line (codes "not settled")) 4

-- the name of a command
abbrev pub command_name : Command → List ℕ
command_name Keys = codes "keys"
command_name Biblatex = codes "biblatex"
command_name Bibtex = codes "bibtex"
command_name Check = codes "check"
command_name Settled = codes "settled"

-- the output and the exit status of a command for these bytes
abbrev pub IsCommandAnswer : Command → List ℕ → List ℕ → ℕ → Type 0
IsCommandAnswer Keys = IsKeysAnswer
IsCommandAnswer Biblatex = IsBibliographyAnswer ShowsBiblatex
IsCommandAnswer Bibtex = IsBibliographyAnswer ShowsBibtex
IsCommandAnswer Check = IsBibliographyAnswer ShowsReports
IsCommandAnswer Settled = IsBibliographyAnswer ShowsSettled

-- the only argument is the name of this command
abbrev pub Name : List (List ℕ) → Command → Type 0
Name words command = words ≡ command_name command ∷ []

-- the only argument is the name of a command
abbrev pub IsCommand : List (List ℕ) → Type 0
IsCommand words = (command : Command) × Name words command

-- the output and the exit status for these arguments. `given` holds for the bytes that the input may contain. `failed`
-- states that reading it failed, and `read` that reading it did not fail
pub data IsAnswer (words : List (List ℕ)) (given : List ℕ → Type 0) (failed read : Type 0) : List ℕ → ℕ → Type 0 where
  usage_reported : (IsCommand words → ⊥) → IsAnswer words given failed read usage 2
  no_memory : IsCommand words → read → IsAnswer words given failed read (error_line (codes "out of memory")) 3
  no_input : IsCommand words → failed → IsAnswer words given failed read (error_line (codes "input failed")) 1
  answered : (command : Command) {bytes text : List ℕ} {status : ℕ} → Name words command → read → given bytes
      → IsCommandAnswer command bytes text status
      → IsAnswer words given failed read text status

-- one text is passed to the sink, whole and in one call; the status is 1 if the sink refused it. The sink's `hands_over`
-- relates its state before a call, the text, the result and the state after the call
pub record IsHandedOver {K : Type 0} (hands_over : K → List ℕ → Bool → K → Type 0) (text : List ℕ) (status : ℕ)
    (old new : K) (result : ℕ) : Type 0 where
  pub is_taken : Bool
  pub handed : hands_over old text is_taken new
  pub status_is : result ≡ (if is_taken then status else 1)

-- a text and a status are possible for the program, and the text is passed to the sink
pub record IsAnswered {K : Type 0} (hands_over : K → List ℕ → Bool → K → Type 0) (may_be : List ℕ → ℕ → Type 0)
    (old new : K) (result : ℕ) : Type 0 where
  pub text : List ℕ
  pub status : ℕ
  pub answer : may_be text status
  pub printed : IsHandedOver hands_over text status old new result
