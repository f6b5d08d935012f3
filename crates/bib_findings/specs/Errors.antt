-- Meaning: words of public contracts.
-- The findings of the skipped blocks and errors that recovery reports.
use Rattle.std.specs.Prelude.{ℕ, Bool, false, ◌==◌, ◌&&◌, drop, not, nat_lt, slice_get, List, [], ◌∷◌, ◌++◌, codes, if◌then◌else◌}
use Rattle.std.specs.Option.{option_map_or}
use Rattle.std.specs.declared.ops.Range.{Range}
use Rattle.bib_tables.specs.TypeError.{type_kind_text}
use Rattle.bib_text.specs.Characters as char
use Rattle.bib_syntax.specs.Errors.{token_text}
use Rattle.bib_syntax.specs.Reading.{EntryReading, FieldReading}
use Rattle.bib_syntax.specs.declared.raw.ParseError.{ParseError}
use Rattle.bib_syntax.specs.declared.raw.ParseErrorKind.{ParseErrorKind}
use Rattle.bib_syntax.specs.declared.raw.ParseErrorKind.TheVariants.{UnexpectedEof, Unexpected, Expected, UnknownAbbreviation, MalformedCommand, DuplicateKey, ResolutionError, AbbreviationCycle, ReferenceCycle}
use Rattle.bib_syntax.specs.declared.raw.Token.{Token}
use Rattle.bib_syntax.specs.declared.raw.Token.TheVariants.{OpeningBrace, ClosingBrace, Comma, QuotationMark}
use Rattle.bib_syntax.specs.declared.raw.recovery.SkippedBlock.{SkippedBlock}
use Rattle.bib_findings.specs.Cuts.{entry_from}
use Rattle.bib_findings.specs.DefinitionCases.{error_note}
use Rattle.bib_findings.specs.EntryNames.{entry_name}
use Rattle.bib_findings.specs.declared.codes.Code.{Code}
use Rattle.bib_findings.specs.declared.codes.Code.TheVariants as code
use Rattle.bib_findings.specs.declared.finding.Finding.{Finding}

-- the finding with this code, byte range and message
abbrev pub finding_at : Code → Range ℕ → List ℕ → Finding
finding_at c span message = record { code = c; span = span; message = message }

-- the words, followed by a name in quotes, exactly as the file writes it
abbrev pub with_name : List ℕ → List ℕ → List ℕ
with_name words name = words ++ (codes " \"" ++ (name ++ codes "\""))

-- the message of an error; the last case is out of memory
abbrev pub error_message : ParseErrorKind → List ℕ
error_message UnexpectedEof = codes "unexpected end of file"
error_message (Unexpected token) = codes "unexpected " ++ token_text token
error_message (Expected token) = codes "expected " ++ token_text token
error_message (UnknownAbbreviation name) = with_name (codes "unknown abbreviation") name
error_message MalformedCommand = codes "malformed command"
error_message (DuplicateKey key) = with_name (codes "duplicate key") key
error_message (ResolutionError kind) = codes "a date that would be inherited can't be read: " ++ type_kind_text kind
error_message (AbbreviationCycle name) = with_name (codes "circular abbreviation") name
error_message (ReferenceCycle key) = with_name (codes "circular reference") key
error_message _ = codes "out of memory"

-- the code of an error; the last case is an error of a field that can't be parsed
abbrev pub error_code : ParseErrorKind → Code
error_code (UnknownAbbreviation name) = code.UnknownAbbreviation
error_code (AbbreviationCycle name) = code.CircularAbbreviation
error_code (DuplicateKey key) = code.DuplicateKey
error_code (ReferenceCycle key) = code.CircularReference
error_code (ResolutionError kind) = code.UnreadDate
error_code _ = code.UnreadField

-- the finding of an error in a file with these definitions of abbreviations
abbrev pub error_finding : List FieldReading → ParseError → Finding
error_finding definitions e = finding_at (error_code e.kind) e.span (error_message e.kind ++ error_note definitions e)

-- whether a block has no end: its error is reported where the skipped text ends, or later
abbrev pub is_endless : SkippedBlock → Bool
is_endless block = not (nat_lt block.error.span.start block.span.end)

-- whether a skipped block ends within a field after its complete ones
abbrev pub is_unclosed : SkippedBlock → EntryReading → Bool
is_unclosed block e = is_endless block && nat_lt e.end block.span.end

-- ---- forms that BibTeX or Biber reads and the grammar doesn't, as BibTeX 0.99d and Biber 2.18 show

-- the note about BibTeX and Biber for a byte at which the grammar requires this token
abbrev pub form_for_token : Token → ℕ → List ℕ
form_for_token OpeningBrace b =
    if b == char.open_parenthesis then codes "; BibTeX and Biber also read parentheses around a block" else []
form_for_token ClosingBrace b = if b == char.hash then codes "; BibTeX and Biber join the texts of a preamble by `#`" else []
form_for_token Comma b = if b == char.close_brace then codes "; BibTeX reads an entry without fields, but Biber reports an error" else []
form_for_token QuotationMark b = if b == char.open_brace then codes "; BibTeX and Biber also read a text in braces" else []
form_for_token _ b = []

-- the same for the token of an error of this kind
abbrev pub form_for_kind : ParseErrorKind → ℕ → List ℕ
form_for_kind (Expected token) b = form_for_token token b
form_for_kind _ b = []

-- the note about BibTeX and Biber for a byte at which there is an error of this kind. Biber skips comments between the parts of a block
abbrev pub form_at : ParseErrorKind → ℕ → List ℕ
form_at kind b = if b == char.percent then codes "; Biber skips a comment here, but BibTeX doesn't" else form_for_kind kind b

-- whether a text begins with a percent sign and a line feed
abbrev pub begins_with_separator : List ℕ → Bool
begins_with_separator (a ∷ (b ∷ rest)) = a == char.percent && b == char.line_feed
begins_with_separator _ = false

-- whether one of several files in a text may end at this offset: a percent sign and a line feed follow each file (`JoinedFiles`)
abbrev pub may_end_file : List ℕ → ℕ → Bool
may_end_file text at = begins_with_separator (drop at text)

-- the note about BibTeX and Biber for a block's error in this text. The note is empty if it isn't one of these forms, or if a file may end
-- there
abbrev pub other_form : List ℕ → ParseError → List ℕ
other_form text e =
    if may_end_file text e.span.start then [] else option_map_or (form_at e.kind) (slice_get text e.span.start) []

-- the message of a block's error in this text
abbrev pub block_message : List ℕ → ParseError → List ℕ
block_message text e = error_message e.kind ++ other_form text e

-- ---- blocks

-- the finding of a skipped block of this text, of which the entry `e` is kept. It names the entry. It is at the place of the error or, if
-- the block ends within a field, at the start of this field
abbrev pub kept_finding : List ℕ → SkippedBlock → EntryReading → Finding
kept_finding text block e =
    if is_unclosed block e
    then finding_at code.Syntax (record { start = e.end; end = e.end })
    (entry_name e.key.text ++ codes ": incomplete field; is a brace or a quote open?")
    else finding_at code.Syntax block.error.span (entry_name e.key.text ++ (codes ": " ++ block_message text block.error))

-- the finding of a skipped block of this text, of which no entry is kept, such as one of abbreviations: at its start if it has no end, or
-- else at the place of its error
abbrev pub lost_finding : List ℕ → SkippedBlock → Finding
lost_finding text block =
    if is_endless block
    then finding_at code.Syntax (record { start = block.span.start; end = block.span.start })
    (codes "a block without an end; is a brace or a quote open?")
    else finding_at code.Syntax block.error.span (block_message text block.error)

-- the finding of a skipped block of a text with these entries; the entry that is kept of it, if there is one, begins where the block begins
abbrev pub block_finding : List ℕ → List EntryReading → SkippedBlock → Finding
block_finding text said block = option_map_or (kept_finding text block) (entry_from said block.span.start) (lost_finding text block)
