-- Meaning: words of public contracts.
-- Codes of findings: their names and severities.
use Rattle.std.specs.Prelude.{ℕ, List, [], ◌∷◌, Option, bytes_eq, codes, find}
use Rattle.bib_findings.specs.declared.codes.Code.{Code}
use Rattle.bib_findings.specs.declared.codes.Code.TheVariants.{UnreadBytes, EscapeSequence, Syntax, UnreadField, UnknownAbbreviation, CircularAbbreviation, DuplicateKey, CircularReference, UnreadDate, UnknownType, MissingField, SuperfluousField, MalformedField, NotANumber, MalformedDate, UnknownField, ForeignField, RepeatedField, EmptyField, WrongIsbn, WrongIssn, DoiAddress, UrlScheme, MalformedName, SpecialCharacter, Html, TwoYears, EmptyKey, StrayField, CommentInEntry, UnbalancedQuote, UnknownReference, LikelyDuplicate, KeyCase, EarlyParent, RepeatedDefinition, UnusedDefinition, MissingEntry, UnusedEntry}
use Rattle.bib_findings.specs.declared.codes.Severity.{Severity}
use Rattle.bib_findings.specs.declared.codes.Severity.TheVariants.{Error, Warning, Info}

-- the word that is printed for a severity
abbrev pub severity_name : Severity → List ℕ
severity_name Error = codes "error"
severity_name Warning = codes "warning"
severity_name Info = codes "info"

-- the name of a code, in output and in options
abbrev pub code_name : Code → List ℕ
code_name UnreadBytes = codes "unread-bytes"
code_name EscapeSequence = codes "escape-sequence"
code_name Syntax = codes "syntax"
code_name UnreadField = codes "unread-field"
code_name UnknownAbbreviation = codes "unknown-abbreviation"
code_name CircularAbbreviation = codes "circular-abbreviation"
code_name DuplicateKey = codes "duplicate-key"
code_name CircularReference = codes "circular-reference"
code_name UnreadDate = codes "unread-date"
code_name UnknownType = codes "unknown-type"
code_name MissingField = codes "missing-field"
code_name SuperfluousField = codes "superfluous-field"
code_name MalformedField = codes "malformed-field"
code_name NotANumber = codes "not-a-number"
code_name MalformedDate = codes "malformed-date"
code_name UnknownField = codes "unknown-field"
code_name ForeignField = codes "foreign-field"
code_name RepeatedField = codes "repeated-field"
code_name EmptyField = codes "empty-field"
code_name WrongIsbn = codes "wrong-isbn"
code_name WrongIssn = codes "wrong-issn"
code_name DoiAddress = codes "doi-address"
code_name UrlScheme = codes "url-scheme"
code_name MalformedName = codes "malformed-name"
code_name SpecialCharacter = codes "special-character"
code_name Html = codes "html"
code_name TwoYears = codes "two-years"
code_name EmptyKey = codes "empty-key"
code_name StrayField = codes "stray-field"
code_name CommentInEntry = codes "comment-in-entry"
code_name UnbalancedQuote = codes "unbalanced-quote"
code_name UnknownReference = codes "unknown-reference"
code_name LikelyDuplicate = codes "likely-duplicate"
code_name KeyCase = codes "key-case"
code_name EarlyParent = codes "early-parent"
code_name RepeatedDefinition = codes "repeated-definition"
code_name UnusedDefinition = codes "unused-definition"
code_name MissingEntry = codes "missing-entry"
code_name UnusedEntry = codes "unused-entry"

-- all codes, in the order in which they are listed
abbrev pub all_codes : List Code
all_codes =
    UnreadBytes ∷ EscapeSequence ∷ Syntax ∷ UnreadField ∷ UnknownAbbreviation ∷ CircularAbbreviation ∷ DuplicateKey ∷ CircularReference
    ∷ UnreadDate ∷ UnknownType ∷ MissingField ∷ SuperfluousField ∷ MalformedField ∷ NotANumber ∷ MalformedDate ∷ UnknownField ∷ ForeignField
    ∷ RepeatedField ∷ EmptyField ∷ WrongIsbn ∷ WrongIssn ∷ DoiAddress ∷ UrlScheme ∷ MalformedName ∷ SpecialCharacter
    ∷ Html ∷ TwoYears ∷ EmptyKey ∷ StrayField ∷ CommentInEntry ∷ UnbalancedQuote ∷ UnknownReference ∷ LikelyDuplicate ∷ KeyCase
    ∷ EarlyParent ∷ RepeatedDefinition ∷ UnusedDefinition ∷ MissingEntry ∷ UnusedEntry ∷ []

-- the code that has this name, if there is one
abbrev pub code_named : List ℕ → Option Code
code_named name = find (λ code. bytes_eq (code_name code) name) all_codes

-- the severity of a code: an error if the file isn't UTF-8, a block is skipped, an entry or a field is removed, or a cited entry is
-- missing; information if nothing is wrong for BibLaTeX and BibTeX skips no field; a warning otherwise
abbrev pub severity_of : Code → Severity
severity_of UnreadBytes = Error
severity_of Syntax = Error
severity_of UnreadField = Error
severity_of CircularAbbreviation = Error
severity_of DuplicateKey = Error
severity_of CircularReference = Error
severity_of MissingEntry = Error
severity_of NotANumber = Info
severity_of ForeignField = Info
severity_of EmptyField = Info
severity_of EarlyParent = Info
severity_of UnusedDefinition = Info
severity_of _ = Warning
