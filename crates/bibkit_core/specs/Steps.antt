-- Machinery: words of private contracts.
-- The steps of a run: reading files, and writing texts to the output.
use Rattle.std.specs.Prelude.{◌≡◌, ⊤, ℕ, Bool, List, [], ◌++◌, Option, Some, None, string_bytes}
use Rattle.std.specs.Io.KnownBytes.{Appends}
use Rattle.bib_source.specs.declared.decoding.Decoded.{Decoded}
use Rattle.bib_queries.specs.declared.citations.Citations.{Citations}
use Rattle.bib_queries.specs.declared.request.Request.{Request}
use Rattle.bib_findings.specs.declared.codes.Code.{Code}
use Rattle.bibkit_core.specs.Answered.{IsDocumentFor, meaning_text}
use Rattle.bibkit_core.specs.Compared.{EndsCompared, PrintsCompared, ReadsDocument, compared_begins, none_compared}
use Rattle.bibkit_core.specs.Database.{BeginsDatabase, EndsDatabase, StoresFile, database_begins}
use Rattle.bibkit_core.specs.Outcomes.{IsRefusedAfter}
use Rattle.bibkit_core.specs.Running.{AreRun, IsStep, IsTaskPrinted}
use Rattle.bibkit_core.specs.Selecting.{BeginsSelecting, selecting_begins, selecting_ends, selecting_prints}
use Rattle.bibkit_core.specs.Tasks.{AreDecoded, BeginsEntries, BeginsLinting, entries_begins, entries_ends, entries_prints, linting_begins, linting_ends, linting_prints}
use Rattle.bibkit_core.specs.declared.cited.Document.{Document}
use Rattle.bibkit_core.specs.declared.database.Database.{Database}
use Rattle.bibkit_core.specs.declared.entries.Entries.{Entries}
use Rattle.bibkit_core.specs.declared.linting.Linting.{Linting}
use Rattle.bibkit_core.specs.declared.request.Cited.{Cited}
use Rattle.bibkit_core.specs.declared.request.Lint.{Lint}
use Rattle.bibkit_core.specs.declared.request.Selected.{Selected}
use Rattle.bibkit_core.specs.declared.selecting.Selecting.{Selecting}
use Rattle.bibkit_core.specs.declared.run.Stop.{Stop}
use Rattle.bibkit_core.specs.declared.run.Stop.TheVariants.{Refused, NoDocument, OutOfMemory}

-- the task processes one file, and the output takes the text for it
pub record HasStep {F T : Type 0} (reads : F → List ℕ → Option (List ℕ) → F → Type 0) (prints : T → List ℕ → List ℕ → List ℕ → T → Type 0)
    (files : F) (task : T) (taken : Option (List ℕ)) (name : List ℕ) (is_read : Bool) (files' : F) (task' : T)
    (taken' : Option (List ℕ)) : Type 0 where
  pub text : List ℕ
  pub step : IsStep reads prints files task name text is_read files' task'
  pub printed : Appends taken taken' text

-- the task processes files in turn, and the output takes the texts for them
pub record HasRun {F T : Type 0} (reads : F → List ℕ → Option (List ℕ) → F → Type 0) (prints : T → List ℕ → List ℕ → List ℕ → T → Type 0)
    (files : F) (task : T) (taken : Option (List ℕ)) (names : List (List ℕ)) (are_read : Bool) (files' : F) (task' : T)
    (taken' : Option (List ℕ)) : Type 0 where
  pub text : List ℕ
  pub run : AreRun reads prints files task names text are_read files' task'
  pub printed : Appends taken taken' text

-- a run ends early for this reason. `Refused`: the output refused a text after one that `Prints` allows. `NoDocument`: the file of the
-- document can't be read, and nothing is printed. `OutOfMemory`: the output refused no text.
pub data HasStopped {K : Type 0} (taken : K → Option (List ℕ)) (refusals : K → ℕ)
    (hands_over : K → List ℕ → Bool → K → Type 0) (Prints : List ℕ → Option ℕ → Type 0) (Unread : Type 0) (old new : K)
    : Stop → Type 0 where
  refused : (text : List ℕ) → Prints text None → IsRefusedAfter taken refusals hands_over text old new
      → HasStopped taken refusals hands_over Prints Unread old new Refused
  no_document : Unread → new ≡ old → HasStopped taken refusals hands_over Prints Unread old new NoDocument
  no_memory : refusals new ≡ refusals old → HasStopped taken refusals hands_over Prints Unread old new OutOfMemory

-- the text is empty, with any status
abbrev pub IsNothing : List ℕ → Option ℕ → Type 0
IsNothing text status = text ≡ []

-- `text` is the output for some of these files, from the first on
pub record AreFirst {F T : Type 0} (reads : F → List ℕ → Option (List ℕ) → F → Type 0)
    (prints : T → List ℕ → List ℕ → List ℕ → T → Type 0) (files : F) (task : T) (names : List (List ℕ))
    (text : List ℕ) (status : Option ℕ) : Type 0 where
  pub done : List (List ℕ)
  pub rest : List (List ℕ)
  pub are_read : Bool
  pub files' : F
  pub task' : T
  pub parts : names ≡ done ++ rest
  pub run : AreRun reads prints files task done text are_read files' task'

-- the text of a document is missing for this reason: its file can't be read, or out of memory
abbrev pub HasNoText : {F : Type 0} → (F → List ℕ → Option (List ℕ) → F → Type 0) → F → List ℕ → F → Stop → Type 0
HasNoText reads files name files' NoDocument = reads files name None files'
HasNoText reads files name files' OutOfMemory = ⊤
HasNoText reads files name files' Refused = ⊥

-- the file of a document is read and decoded to this text
pub record ReadsText {F : Type 0} (reads : F → List ℕ → Option (List ℕ) → F → Type 0) (files : F) (name : List ℕ)
    (files' : F) (text : List ℕ) : Type 0 where
  pub bytes : List ℕ
  pub decoded : Decoded
  pub read : reads files name (Some bytes) files'
  pub of_bytes : AreDecoded bytes decoded
  pub text_is : text ≡ string_bytes decoded.text

-- the output of `lint` without a document
pub record AreFindingsPrinted {F : Type 0} (reads : F → List ℕ → Option (List ℕ) → F → Type 0) (lint : Lint) (files : F)
    (names : List (List ℕ)) (text : List ℕ) (status : Option ℕ) : Type 0 where
  pub task : Linting
  pub begins : BeginsLinting lint task
  pub printed : IsTaskPrinted reads linting_begins linting_prints linting_ends files task names text status

-- the output of `lint` with a document
pub record AreComparedPrinted {F : Type 0} (reads : F → List ℕ → Option (List ℕ) → F → Type 0) (lint : Lint)
    (cited : Cited) (files : F) (names : List (List ℕ)) (text : List ℕ) (status : Option ℕ) : Type 0 where
  pub found : Citations
  pub document : List ℕ
  pub files' : F
  pub read : ReadsDocument reads files cited.name.now files' document found
  pub printed : IsTaskPrinted reads (compared_begins lint) (PrintsCompared lint cited.has_unused found)
      (EndsCompared lint cited.name.now document found) files' none_compared names text status

-- the output of `lint` for files as one database, with this document if there is one
pub record IsDatabasePrinted {F : Type 0} (reads : F → List ℕ → Option (List ℕ) → F → Type 0) (lint : Lint) (document : Option Document)
    (files : F) (names : List (List ℕ)) (text : List ℕ) (status : Option ℕ) : Type 0 where
  pub task : Database
  pub begins : BeginsDatabase lint document task
  pub printed : IsTaskPrinted reads database_begins StoresFile EndsDatabase files task names text status

-- the output of `lint` for files as one database, with the document of a request
pub record IsComparedDatabase {F : Type 0} (reads : F → List ℕ → Option (List ℕ) → F → Type 0) (lint : Lint) (cited : Cited)
    (files : F) (names : List (List ℕ)) (text : List ℕ) (status : Option ℕ) : Type 0 where
  pub document : Document
  pub files' : F
  pub read : IsDocumentFor reads files cited files' document
  pub printed : IsDatabasePrinted reads lint (Some document) files' names text status

-- the output of a request for entries
pub record AreEntriesPrinted {F : Type 0} (reads : F → List ℕ → Option (List ℕ) → F → Type 0) (asked : Request)
    (files : F) (names : List (List ℕ)) (text : List ℕ) (status : Option ℕ) : Type 0 where
  pub task : Entries
  pub begins : BeginsEntries asked task
  pub printed : IsTaskPrinted reads entries_begins entries_prints entries_ends files task names text status

-- the output of a request for entries that meet conditions
pub record AreSelectedPrinted {F : Type 0} (reads : F → List ℕ → Option (List ℕ) → F → Type 0) (selected : Selected)
    (files : F) (names : List (List ℕ)) (text : List ℕ) (status : Option ℕ) : Type 0 where
  pub task : Selecting
  pub begins : BeginsSelecting selected task
  pub printed : IsTaskPrinted reads selecting_begins selecting_prints selecting_ends files task names text status

-- the output of explaining a code: nothing so far, or the whole explanation with status 0
pub data IsMeaningPrinted (c : Code) : List ℕ → Option ℕ → Type 0 where
  nothing : IsMeaningPrinted c [] None
  all : (text : List ℕ) → IsMeaningPrinted c (meaning_text c text) (Some 0)
