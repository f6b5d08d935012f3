-- The status of each error is one with which the call may fail.
use Rattle.std.proofs.Common.{◌≡◌, ◌⊎◌, inl, inr, ℕ, List, sym, subst, Result, Ok, Err}
use Rattle.std.specs.Prelude.{IfErr}
use Rattle.biblatex.specs.Headline.{IsAcceptedText, IsErrorOf}
use Rattle.bib_syntax.specs.Errors.{Refuses, out_of_memory}
use Rattle.bib_syntax.specs.Grammar.{IsFile}
use Rattle.bib_syntax.specs.declared.raw.ParseError.{ParseError}
use Rattle.bib_syntax.specs.declared.raw.ParseErrorKind.{ParseErrorKind}
use Rattle.bib_syntax.specs.declared.raw.ParseErrorKind.TheVariants as kind
use Rattle.edit_entries.specs.Documents.{Document, EntriesAreRefused, IsDocument}
use Rattle.edit_entries.specs.LineEnds.{with_line_ends_of}
use Rattle.edit_entries.specs.declared.errors.EditError.{EditError}
use Rattle.edit_entries.specs.declared.errors.EditError.TheVariants as edit_error
use Rattle.biblatex_c.specs.Calls.{AddFails, DocumentFails, EditFails, HasUnbalancedQuotes, IsNoBibliography, IsNoFile, ReadingFails, TextFails}
use Rattle.biblatex_c.specs.Statuses.{status_of_edit, status_of_error, status_of_kind}
use Rattle.biblatex_c.specs.declared.status.Status.{Status}
use Rattle.biblatex_c.specs.declared.status.Status.TheVariants.{Done, TooShort, NotUtf8, Refused, OutOfMemory, UnknownKey, KeyIsThere, NotAKey, NotAName, NotInBraces, DefinitionIsThere, NoFieldLeft, NotBare, UnbalancedQuotes}

-- if `F` holds for `OutOfMemory` and for `Refused`, it holds for the status of each kind of error
kind_fails : (F : Status → Type 0) (kind : ParseErrorKind) → F OutOfMemory → F Refused → F (status_of_kind kind)
kind_fails F kind.UnexpectedEof memory text = text
kind_fails F (kind.Unexpected t) memory text = text
kind_fails F (kind.Expected t) memory text = text
kind_fails F (kind.UnknownAbbreviation n) memory text = text
kind_fails F kind.MalformedCommand memory text = text
kind_fails F (kind.DuplicateKey k) memory text = text
kind_fails F (kind.ResolutionError k) memory text = text
kind_fails F (kind.AbbreviationCycle n) memory text = text
kind_fails F (kind.ReferenceCycle k) memory text = text
kind_fails F kind.OutOfMemory memory text = memory

-- if an error is out of memory or `R` holds, and `F` holds for `OutOfMemory`, and for `Refused` if `R` holds, `F` holds for its status
error_fails : {Q R : Type 0} (F : Status → Type 0) (e : ParseError) → (e ≡ out_of_memory) ⊎ (Q × R) → F OutOfMemory
    → (R → F Refused) → F (status_of_error e)
error_fails F e (inl is) memory text = subst (λ e. F (status_of_error e)) (sym is) memory
error_fails F e (inr found) memory text = kind_fails F e.kind memory (text found.1)

-- if parsing a text as a file may fail with an error, a call with the text may fail with the status of this error
pub file_fails : (bytes text : List ℕ) (e : ParseError) → text ≡ bytes → Refuses text e (IsFile text → ⊥)
    → TextFails (IsNoFile bytes) bytes (status_of_error e)
file_fails bytes text e same refuses = error_fails (TextFails (IsNoFile bytes) bytes) e refuses tt (λ unread. subst IsNoFile same unread)

-- if parsing a text as a bibliography may fail with an error, a call with the text may fail with the status of this error
pub bibliography_fails : (bytes text : List ℕ) (e : ParseError) → text ≡ bytes
    → (e ≡ out_of_memory) ⊎ (IsErrorOf text e × (IsAcceptedText text → ⊥))
    → TextFails (IsNoBibliography bytes) bytes (status_of_error e)
bibliography_fails bytes text e same refuses =
    error_fails (TextFails (IsNoBibliography bytes) bytes) e refuses tt (λ unread. subst IsNoBibliography same unread)

-- if parsing a text as a file may fail with an error, reading the text as a document may fail with the status of this error
pub reading_fails : (text : List ℕ) (e : ParseError) → Refuses text e (IsFile text → ⊥) → ReadingFails text (status_of_error e)
reading_fails text e refuses = error_fails (ReadingFails text) e refuses tt (λ unread. unread)

-- if reading a text as a document may fail with a status, so may reading its bytes
pub document_fails : (text : List ℕ) (why : Status) → ReadingFails text why → DocumentFails text why
document_fails text Done fails = fails
document_fails text TooShort fails = fails
document_fails text NotUtf8 fails = absurd fails
document_fails text Refused fails = fails
document_fails text OutOfMemory fails = fails
document_fails text UnknownKey fails = fails
document_fails text KeyIsThere fails = fails
document_fails text NotAKey fails = fails
document_fails text NotAName fails = fails
document_fails text NotInBraces fails = fails
document_fails text DefinitionIsThere fails = fails
document_fails text NoFieldLeft fails = fails
document_fails text NotBare fails = fails
document_fails text UnbalancedQuotes fails = fails

-- the same for the error of a result
pub document_answer : {A : Type 0} (answer : Result A Status) (bytes text : List ℕ) → text ≡ bytes → IfErr answer (ReadingFails text)
    → IfErr answer (DocumentFails bytes)
document_answer (Ok document) bytes text same fails = fails
document_answer (Err why) bytes text same fails = document_fails bytes why (subst (λ t. ReadingFails t why) same fails)

-- if reading bytes as a document may fail with a status, so may an edit of them
pub no_edit_fails : (Refuses' : Document → EditError → Type 0) (bytes : List ℕ) (others : List (List ℕ)) (why : Status)
    → DocumentFails bytes why → EditFails Refuses' bytes others why
no_edit_fails Refuses' bytes others Done fails = fails
no_edit_fails Refuses' bytes others TooShort fails = fails
no_edit_fails Refuses' bytes others NotUtf8 fails = λ all. fails all.0
no_edit_fails Refuses' bytes others Refused fails = fails
no_edit_fails Refuses' bytes others OutOfMemory fails = tt
no_edit_fails Refuses' bytes others UnknownKey fails = absurd fails
no_edit_fails Refuses' bytes others KeyIsThere fails = absurd fails
no_edit_fails Refuses' bytes others NotAKey fails = absurd fails
no_edit_fails Refuses' bytes others NotAName fails = absurd fails
no_edit_fails Refuses' bytes others NotInBraces fails = absurd fails
no_edit_fails Refuses' bytes others DefinitionIsThere fails = absurd fails
no_edit_fails Refuses' bytes others NoFieldLeft fails = absurd fails
no_edit_fails Refuses' bytes others NotBare fails = absurd fails
no_edit_fails Refuses' bytes others UnbalancedQuotes fails = fails

-- if an edit is refused with an error, the call may fail with the status of that error
pub edit_fails : (Refuses' : Document → EditError → Type 0) (bytes : List ℕ) (others : List (List ℕ)) (d : Document)
    (why : EditError) → d.text ≡ bytes
    → IsDocument d → Refuses' d why → EditFails Refuses' bytes others (status_of_edit why)
edit_fails Refuses' bytes others d edit_error.UnknownKey same read because = record {
  document = d;
  same = same;
  read = read;
  refused = because;
}
edit_fails Refuses' bytes others d edit_error.KeyIsThere same read because = record {
  document = d;
  same = same;
  read = read;
  refused = because;
}
edit_fails Refuses' bytes others d edit_error.NotAKey same read because = record {
  document = d;
  same = same;
  read = read;
  refused = because;
}
edit_fails Refuses' bytes others d edit_error.NotAName same read because = record {
  document = d;
  same = same;
  read = read;
  refused = because;
}
edit_fails Refuses' bytes others d edit_error.NotInBraces same read because = record {
  document = d;
  same = same;
  read = read;
  refused = because;
}
edit_fails Refuses' bytes others d edit_error.DefinitionIsThere same read because = record {
  document = d;
  same = same;
  read = read;
  refused = because;
}
edit_fails Refuses' bytes others d edit_error.NoFieldLeft same read because = record {
  document = d;
  same = same;
  read = read;
  refused = because;
}
edit_fails Refuses' bytes others d edit_error.NotBare same read because = record {
  document = d;
  same = same;
  read = read;
  refused = because;
}
edit_fails Refuses' bytes others d edit_error.OutOfMemory same read because = tt

-- if reading the first text as a document may fail with a status, so may adding to it
pub no_adding_fails : (bytes added : List ℕ) (why : Status) → DocumentFails bytes why → AddFails bytes added why
no_adding_fails bytes added Done fails = fails
no_adding_fails bytes added TooShort fails = fails
no_adding_fails bytes added NotUtf8 fails = λ all. fails all.0
no_adding_fails bytes added Refused fails = inl fails
no_adding_fails bytes added OutOfMemory fails = tt
no_adding_fails bytes added UnknownKey fails = fails
no_adding_fails bytes added KeyIsThere fails = absurd fails
no_adding_fails bytes added NotAKey fails = absurd fails
no_adding_fails bytes added NotAName fails = fails
no_adding_fails bytes added NotInBraces fails = fails
no_adding_fails bytes added DefinitionIsThere fails = absurd fails
no_adding_fails bytes added NoFieldLeft fails = fails
no_adding_fails bytes added NotBare fails = fails
no_adding_fails bytes added UnbalancedQuotes fails = inl fails

-- if reading the added text with the line ends of the first may fail with a status, so may adding it
pub added_fails : (bytes added text : List ℕ) (why : Status) → text ≡ with_line_ends_of bytes added → ReadingFails text why
    → AddFails bytes added why
added_fails bytes added text Done same fails = fails
added_fails bytes added text TooShort same fails = fails
added_fails bytes added text NotUtf8 same fails = absurd fails
added_fails bytes added text Refused same fails = inr (subst IsNoFile same fails)
added_fails bytes added text OutOfMemory same fails = tt
added_fails bytes added text UnknownKey same fails = fails
added_fails bytes added text KeyIsThere same fails = absurd fails
added_fails bytes added text NotAKey same fails = absurd fails
added_fails bytes added text NotAName same fails = fails
added_fails bytes added text NotInBraces same fails = fails
added_fails bytes added text DefinitionIsThere same fails = absurd fails
added_fails bytes added text NoFieldLeft same fails = fails
added_fails bytes added text NotBare same fails = fails
added_fails bytes added text UnbalancedQuotes same fails = inr (subst HasUnbalancedQuotes same fails)

-- if adding a document is refused with an error, the call may fail with the status of that error
pub add_fails : (bytes added : List ℕ) (d more : Document) (why : EditError) → d.text ≡ bytes → IsDocument d
    → more.text ≡ with_line_ends_of bytes added → IsDocument more
    → EntriesAreRefused d more why → AddFails bytes added (status_of_edit why)
add_fails bytes added d more edit_error.UnknownKey same read same' read' because = absurd because
add_fails bytes added d more edit_error.KeyIsThere same read same' read' because =
    record { document = d; more = more; same = same; read = read; same_added = same'; read_added = read'; refused = because }
add_fails bytes added d more edit_error.NotAKey same read same' read' because =
    record { document = d; more = more; same = same; read = read; same_added = same'; read_added = read'; refused = because }
add_fails bytes added d more edit_error.NotAName same read same' read' because = absurd because
add_fails bytes added d more edit_error.NotInBraces same read same' read' because = absurd because
add_fails bytes added d more edit_error.DefinitionIsThere same read same' read' because =
    record { document = d; more = more; same = same; read = read; same_added = same'; read_added = read'; refused = because }
add_fails bytes added d more edit_error.NoFieldLeft same read same' read' because = absurd because
add_fails bytes added d more edit_error.NotBare same read same' read' because = absurd because
add_fails bytes added d more edit_error.OutOfMemory same read same' read' because = tt
