-- Machinery: words of private contracts.
-- The reasons for refusing one edit.
use Rattle.std.specs.Prelude.{◌≡◌, ◌≢◌, ◌⊎◌, ⊤, ℕ, false, List, Option, Some, None}
use Rattle.std.specs.String.{string_bytes}
use Rattle.std.specs.declared.string.String.{String}
use Rattle.bib_syntax.specs.Errors.{out_of_memory}
use Rattle.bib_syntax.specs.SyntaxErrors.{IsReported}
use Rattle.bib_syntax.specs.declared.raw.ParseError.{ParseError}
use Rattle.bib_syntax.specs.declared.raw.ParseErrorKind.{ParseErrorKind}
use Rattle.bib_syntax.specs.declared.raw.ParseErrorKind.TheVariants as kind
use Rattle.edit_entries.specs.Documents.{Document}
use Rattle.edit_entries.specs.declared.errors.EditError.{EditError}
use Rattle.edit_entries.specs.declared.errors.EditError.TheVariants as error
use Rattle.edit_strings.specs.declared.errors.ExpandError.{ExpandError}
use Rattle.edit_strings.specs.declared.errors.ExpandError.TheVariants as expand_error
use Rattle.edit_resolve.specs.declared.errors.ResolveError.{ResolveError}
use Rattle.edit_resolve.specs.declared.errors.ResolveError.TheVariants as resolve_error
use Rattle.bibkit_edits.specs.Edited.{AddsText, AreMade, IsEditRefused, IsDocumentOf, MeetsEarlyUse, MeetsReferenceCycle, is_safe}
use Rattle.bibkit_edits.specs.declared.edit.Edit.{Edit}
use Rattle.bibkit_edits.specs.declared.edit.Refusal.{Refusal}
use Rattle.bibkit_edits.specs.declared.edit.Refusal.TheVariants as refusal
use Rattle.bibkit_edits.specs.declared.editing.Step.{Step}
use Rattle.bibkit_edits.specs.declared.editing.Step.TheVariants as step

-- the edit of a text adds a text, and parsing that text fails with `e`: an error of the text, or out of memory
pub record AddsUnread (edit : Edit) (text : List ℕ) (e : ParseError) : Type 0 where
  pub more : List ℕ
  pub adds : AddsText edit text more
  pub why : (e ≡ out_of_memory) ⊎ IsReported more e

-- an edit of a document may fail with this reason
abbrev pub StepIsRefused : Edit → Document → Step → Type 0
StepIsRefused edit d (step.Added e) = AddsUnread edit d.text e
StepIsRefused edit d (step.Refused why) = IsEditRefused edit d why ⊎ (why ≡ error.OutOfMemory)
StepIsRefused edit d (step.EarlyUse definition) = MeetsEarlyUse edit d definition
StepIsRefused edit d (step.ReferenceCycle entry) = MeetsReferenceCycle edit d entry
StepIsRefused edit d step.UnbalancedQuotes = is_safe edit d ≡ false

-- the refusal for an error of this kind: `OutOfMemory` for that kind, otherwise the second argument
abbrev pub unless_no_memory : ParseErrorKind → Refusal → Refusal
unless_no_memory kind.OutOfMemory other = refusal.OutOfMemory
unless_no_memory _ other = other

-- the refusal for an error of parsing the text to be added
abbrev pub added_refusal : ParseError → Refusal
added_refusal e = unless_no_memory e.kind (refusal.Added e)

-- the refusal for an error of parsing the text of the file
abbrev pub file_refusal : ParseError → Refusal
file_refusal e = unless_no_memory e.kind (refusal.File e)

-- the reason for refusing an edit, from an error of expanding abbreviations
abbrev pub expansion_step : ExpandError → Step
expansion_step (expand_error.EarlyUse definition) = step.EarlyUse definition
expansion_step expand_error.OutOfMemory = step.Refused error.OutOfMemory

-- the reason for refusing an edit, from an error of resolving references
abbrev pub resolution_step : ResolveError → Step
resolution_step (resolve_error.Cycle entry) = step.ReferenceCycle entry
resolution_step resolve_error.OutOfMemory = step.Refused error.OutOfMemory

-- the refusal for an error of the edit at an index
abbrev pub edit_refusal : EditError → ℕ → Refusal
edit_refusal error.OutOfMemory index = refusal.OutOfMemory
edit_refusal other index = refusal.Edit index other

-- the refusal of the edit at an index, for this reason
abbrev pub refusal_at : Step → ℕ → Refusal
refusal_at (step.Added e) index = added_refusal e
refusal_at (step.Refused why) index = edit_refusal why index
refusal_at (step.EarlyUse definition) index = refusal.EarlyUse index definition
refusal_at (step.ReferenceCycle entry) index = refusal.ReferenceCycle index entry
refusal_at step.UnbalancedQuotes index = refusal.UnbalancedQuotes index

-- an edit of the document of `text` may be refused with the error `why`, which isn't out of memory
pub record IsRefusedAt (edit : Edit) (text : List ℕ) (why : EditError) : Type 0 where
  pub document : Document
  pub read : IsDocumentOf text document
  pub refused : IsEditRefused edit document why
  pub other : why ≢ error.OutOfMemory

-- an edit expands the document of `text`. Its definition at this index is the first that uses its own name, or a name before the name's
-- first definition
pub record MeetsEarlyUseAt (edit : Edit) (text : List ℕ) (definition : ℕ) : Type 0 where
  pub document : Document
  pub read : IsDocumentOf text document
  pub meets : MeetsEarlyUse edit document definition

-- an edit resolves the document of `text`, whose entry at this index is the first that inherits from itself
pub record MeetsReferenceCycleAt (edit : Edit) (text : List ℕ) (entry : ℕ) : Type 0 where
  pub document : Document
  pub read : IsDocumentOf text document
  pub meets : MeetsReferenceCycle edit document entry

-- an edit of the document of `text` can break a text in quotes
pub record IsUnsafe (edit : Edit) (text : List ℕ) : Type 0 where
  pub document : Document
  pub read : IsDocumentOf text document
  pub unsafe : is_safe edit document ≡ false

-- the edit of a text adds a text with the error `e`, which makes parsing fail
pub record AddsError (edit : Edit) (text : List ℕ) (e : ParseError) : Type 0 where
  pub more : List ℕ
  pub adds : AddsText edit text more
  pub reported : IsReported more e

-- the edit of a text, with this index, may fail with this refusal
abbrev pub IsTextRefused : Edit → List ℕ → ℕ → Refusal → Type 0
IsTextRefused edit text index (refusal.NotUtf8 at) = ⊥
IsTextRefused edit text index (refusal.File e) = IsReported text e
IsTextRefused edit text index (refusal.Added e) = AddsError edit text e
IsTextRefused edit text index (refusal.Edit at why) = (at ≡ index) × IsRefusedAt edit text why
IsTextRefused edit text index (refusal.EarlyUse at definition) = (at ≡ index) × MeetsEarlyUseAt edit text definition
IsTextRefused edit text index (refusal.ReferenceCycle at entry) = (at ≡ index) × MeetsReferenceCycleAt edit text entry
IsTextRefused edit text index (refusal.UnbalancedQuotes at) = (at ≡ index) × IsUnsafe edit text
IsTextRefused edit text index refusal.OutOfMemory = ⊤

-- the text for the next edit: the text after the last edit, or the first text before any edit
abbrev pub latest : {A : Type 0} → Option (String A) → List ℕ → List ℕ
latest (Some new) first = string_bytes new
latest None first = first

-- `new` is the text after these edits, and is `text` itself or the text of a document
pub record AreFirstMade (edits : List Edit) (text new : List ℕ) : Type 0 where
  pub made : AreMade edits text new
  pub read : (new ≡ text) ⊎ ((d : Document) × IsDocumentOf new d)
