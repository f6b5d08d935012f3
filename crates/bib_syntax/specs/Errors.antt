-- Meaning: words of public contracts.
-- Errors of a text, out of memory, and how they are printed. Each kind that the Rust crate `biblatex` has is printed as there.
use Rattle.std.specs.Prelude.{◌≡◌, ℕ, ◌≤◌, Bool, true, false, List, ◌++◌, Option, Some, length, codes, IsTrue, ◌⊎◌}
use Rattle.std.specs.Fmt.{◌++?◌, decimal, debug_str}
use Rattle.bib_tables.specs.TypeError.{type_kind_text}
use Rattle.bib_syntax.specs.declared.raw.Token.{Token}
use Rattle.bib_syntax.specs.declared.raw.Token.TheVariants as token
use Rattle.bib_syntax.specs.declared.raw.ParseErrorKind.{ParseErrorKind}
use Rattle.bib_syntax.specs.declared.raw.ParseErrorKind.TheVariants.{UnexpectedEof, Unexpected, Expected, UnknownAbbreviation, MalformedCommand, DuplicateKey, ResolutionError, AbbreviationCycle, ReferenceCycle, OutOfMemory}
use Rattle.bib_syntax.specs.declared.raw.ParseError.{ParseError}

-- the printed text of a token
abbrev pub token_text : Token → List ℕ
token_text token.Identifier = codes "identifier"
token_text token.OpeningBrace = codes "opening brace"
token_text token.ClosingBrace = codes "closing brace"
token_text token.Comma = codes "comma"
token_text token.QuotationMark = codes "double quote"
token_text token.Equals = codes "equals"
token_text token.DecimalPoint = codes "decimal point"

-- a name in quotes, as Rust's `{:?}` prints it; `None`, which leaves it open, for a name that isn't ASCII
abbrev pub quoted_name : List ℕ → Option (List ℕ)
quoted_name name = debug_str name

-- the printed text of a kind; `None` leaves it open
abbrev pub kind_text : ParseErrorKind → Option (List ℕ)
kind_text UnexpectedEof = Some (codes "unexpected end of file")
kind_text (Unexpected t) = Some (codes "unexpected " ++ token_text t)
kind_text (Expected t) = Some (codes "expected " ++ token_text t)
kind_text (UnknownAbbreviation name) = Some (codes "unknown abbreviation ") ++? quoted_name name
kind_text MalformedCommand = Some (codes "malformed command")
kind_text (DuplicateKey key) = Some (codes "duplicate key ") ++? quoted_name key
kind_text (ResolutionError kind) = Some (codes "type error occurred during crossref resolution: " ++ type_kind_text kind)
kind_text (AbbreviationCycle name) = Some (codes "circular abbreviation ") ++? quoted_name name
kind_text (ReferenceCycle key) = Some (codes "circular reference ") ++? quoted_name key
kind_text OutOfMemory = Some (codes "out of memory")

-- the printed text of an error: its kind, and its span in bytes; `None` leaves it open
abbrev pub error_text : ParseError → Option (List ℕ)
error_text e = kind_text e.kind ++? Some (codes ": " ++ decimal e.span.start ++ codes "-" ++ decimal e.span.end)

-- out of memory, which is not an error of the text
abbrev pub out_of_memory : ParseError
out_of_memory = record { span = record { start = 0; end = 0 }; kind = OutOfMemory }

-- whether a kind is an error of the grammar: something occurs where it isn't allowed, or is missing where it is required
abbrev pub is_syntax : ParseErrorKind → Bool
is_syntax UnexpectedEof = true
is_syntax (Unexpected t) = true
is_syntax (Expected t) = true
is_syntax (UnknownAbbreviation name) = false
is_syntax MalformedCommand = false
is_syntax (DuplicateKey key) = false
is_syntax (ResolutionError kind) = false
is_syntax (AbbreviationCycle name) = false
is_syntax (ReferenceCycle key) = false
is_syntax OutOfMemory = false

-- an error of the grammar, with a span in `text`
pub record IsSyntaxError (text : List ℕ) (e : ParseError) : Type 0 where
  pub kind : IsTrue (is_syntax e.kind)
  pub ordered : e.span.start ≤ e.span.end
  pub within : e.span.end ≤ length text

-- `e` is out of memory; or it is an error of the grammar with a span in `text`, and `Absent` is true
abbrev pub Refuses : List ℕ → ParseError → Type 0 → Type 0
Refuses text e Absent = (e ≡ out_of_memory) ⊎ (IsSyntaxError text e × Absent)
