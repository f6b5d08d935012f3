-- Meaning: words of public contracts.
-- The output of a request on files, and the status.
use Rattle.std.specs.Prelude.{◌≡◌, ℕ, List, [], ◌++◌, ◌&&◌, codes, false, length, map, nat_lt, not, true, Bool, Option, Some, None}
use Rattle.std.specs.Borrow.{Bor}
use Rattle.bib_queries.specs.declared.citations.Citations.{Citations}
use Rattle.bib_queries.specs.declared.request.CitedKeys.{CitedKeys}
use Rattle.bib_queries.specs.declared.request.Request.{Request as Excerpts}
use Rattle.bib_queries.specs.declared.request.Request.TheVariants as excerpts
use Rattle.bib_findings.specs.Codes.{code_name, severity_name, severity_of}
use Rattle.bib_findings.specs.declared.codes.Code.{Code}
use Rattle.bibkit_core.specs.Compared.{EndsCompared, PrintsCompared, ReadsDocument, cited_keys, compared_begins, none_compared}
use Rattle.bibkit_core.specs.Database.{BeginsDatabase, EndsDatabase, StoresFile, database_begins}
use Rattle.bibkit_core.specs.Outcomes.{HasPrinted, IsRefusedAfter}
use Rattle.bibkit_core.specs.Running.{IsTaskPrinted}
use Rattle.bibkit_core.specs.Selecting.{BeginsSelecting, selecting_begins, selecting_ends, selecting_prints}
use Rattle.bibkit_core.specs.Stats.{EndsCounted, PrintsCounted, counted_begins, none_counted}
use Rattle.bibkit_core.specs.Tasks.{BeginsEntries, BeginsLinting, entries_begins, entries_ends, entries_prints, linting_begins, linting_ends, linting_prints}
use Rattle.bibkit_core.specs.declared.cited.Document.{Document}
use Rattle.bibkit_core.specs.declared.database.Database.{Database}
use Rattle.bibkit_core.specs.declared.entries.Entries.{Entries}
use Rattle.bibkit_core.specs.declared.linting.Linting.{Linting}
use Rattle.bibkit_core.specs.declared.request.Cited.{Cited}
use Rattle.bibkit_core.specs.declared.request.Lint.{Lint}
use Rattle.bibkit_core.specs.declared.request.Request.{Request}
use Rattle.bibkit_core.specs.declared.request.Request.TheVariants as request
use Rattle.bibkit_core.specs.declared.request.Selected.{Selected}
use Rattle.bibkit_core.specs.declared.selecting.Selecting.{Selecting}

-- the line that explains a code: its name, its severity and this meaning
abbrev pub meaning_text : Code → List ℕ → List ℕ
meaning_text c meaning = code_name c ++ (codes " (" ++ (severity_name (severity_of c) ++ (codes "): " ++ (meaning ++ codes "\n"))))

-- `asked` requests the entries that these citations cite
pub record AsksForCited (found : Citations) (asked : CitedKeys) : Type 0 where
  pub keys : map (λ key. key.now) asked.keys.items ≡ cited_keys found
  pub all : asked.all ≡ found.all

-- whether `lint` takes files with these names as one database: there are several, and the request doesn't say that each is a database
abbrev pub is_database : Lint → List (List ℕ) → Bool
is_database lint names = not lint.is_each && nat_lt 1 (length names)

-- the file of a document is read, and `document` has its text and its citations. The name, and whether entries that aren't cited are
-- reported, are those of the request.
pub record IsDocumentFor {F : Type 0} (reads : F → List ℕ → Option (List ℕ) → F → Type 0) (files : F) (cited : Cited)
    (files' : F) (document : Document) : Type 0 where
  pub name_is : document.name.now ≡ cited.name.now
  pub unused_is : document.has_unused ≡ cited.has_unused
  pub read : ReadsDocument reads files cited.name.now files' document.text.now document.citations

-- an output of a request on the files with these names, and the status if the output is whole; `reads` relates the state before
-- reading a file, its name, its bytes (`None` for an error) and the state afterwards
pub data IsCallAnswer {F : Type 0} (reads : F → List ℕ → Option (List ℕ) → F → Type 0) (files : F)
    (names : List (List ℕ)) : Request → List ℕ → Option ℕ → Type 0 where
  findings : {lint : Lint} {text : List ℕ} {status : Option ℕ} (task : Linting) → is_database lint names ≡ false → lint.cited ≡ None
      → BeginsLinting lint task → IsTaskPrinted reads linting_begins linting_prints linting_ends files task names text status
      → IsCallAnswer reads files names (request.Lint lint) text status
  compared : {lint : Lint} {text : List ℕ} {status : Option ℕ} (cited : Cited) (found : Citations) (document : List ℕ)
      (files' : F) → is_database lint names ≡ false → lint.cited ≡ Some cited
      → ReadsDocument reads files cited.name.now files' document found
      → IsTaskPrinted reads (compared_begins lint) (PrintsCompared lint cited.has_unused found)
      (EndsCompared lint cited.name.now document found) files' none_compared names text status
      → IsCallAnswer reads files names (request.Lint lint) text status
  database : {lint : Lint} {text : List ℕ} {status : Option ℕ} (task : Database) → is_database lint names ≡ true → lint.cited ≡ None
      → BeginsDatabase lint None task → IsTaskPrinted reads database_begins StoresFile EndsDatabase files task names text status
      → IsCallAnswer reads files names (request.Lint lint) text status
  compared_database : {lint : Lint} {text : List ℕ} {status : Option ℕ} (cited : Cited) (document : Document) (files' : F)
      (task : Database) → is_database lint names ≡ true → lint.cited ≡ Some cited → IsDocumentFor reads files cited files' document
      → BeginsDatabase lint (Some document) task
      → IsTaskPrinted reads database_begins StoresFile EndsDatabase files' task names text status
      → IsCallAnswer reads files names (request.Lint lint) text status
  meaning : {c : Code} (text : List ℕ) → IsCallAnswer reads files names (request.Explain c) (meaning_text c text) (Some 0)
  no_meaning : {c : Code} → IsCallAnswer reads files names (request.Explain c) [] None
  entries : {asked : Excerpts} {text : List ℕ} {status : Option ℕ} (task : Entries) → BeginsEntries asked task
      → IsTaskPrinted reads entries_begins entries_prints entries_ends files task names text status
      → IsCallAnswer reads files names (request.Entries asked) text status
  selected : {selected : Selected} {text : List ℕ} {status : Option ℕ} (task : Selecting) → BeginsSelecting selected task
      → IsTaskPrinted reads selecting_begins selecting_prints selecting_ends files task names text status
      → IsCallAnswer reads files names (request.Selected selected) text status
  cited : {name : Bor (List ℕ)} {text : List ℕ} {status : Option ℕ} (found : Citations) (document : List ℕ) (files' : F)
      (asked : CitedKeys) (task : Entries)
      → ReadsDocument reads files name.now files' document found → AsksForCited found asked → BeginsEntries (excerpts.Cited asked) task
      → IsTaskPrinted reads entries_begins entries_prints entries_ends files' task names text status
      → IsCallAnswer reads files names (request.Cited name) text status
  counts : {text : List ℕ} {status : Option ℕ}
      → IsTaskPrinted reads counted_begins PrintsCounted EndsCounted files none_counted names text status
      → IsCallAnswer reads files names request.Stats text status

-- the request reads the citations of the document whose file has this name
pub data IsOnDocument : Request → List ℕ → Type 0 where
  compared : {lint : Lint} {cited : Cited} → lint.cited ≡ Some cited → IsOnDocument (request.Lint lint) cited.name.now
  cited : {name : Bor (List ℕ)} → IsOnDocument (request.Cited name) name.now

-- the file of the document of a request can't be read
pub record CantReadDocument {F : Type 0} (reads : F → List ℕ → Option (List ℕ) → F → Type 0) (files : F) (request : Request) : Type 0 where
  pub name : List ℕ
  pub files' : F
  pub document : IsOnDocument request name
  pub unread : reads files name None files'

-- a run has the status 2 for one of these reasons: a file can't be read, and the whole output for the others is printed; or the file
-- of the document can't be read, and nothing is printed; or the output takes the first texts, and refuses the text after them
pub data HasFailed {F K : Type 0} (reads : F → List ℕ → Option (List ℕ) → F → Type 0) (taken : K → Option (List ℕ))
    (refusals : K → ℕ) (hands_over : K → List ℕ → Bool → K → Type 0) (files : F) (names : List (List ℕ))
    (request : Request) (old new : K) : Type 0 where
  unread : HasPrinted taken (IsCallAnswer reads files names request) old new 2 → refusals new ≡ refusals old
      → HasFailed reads taken refusals hands_over files names request old new
  no_document : CantReadDocument reads files request → new ≡ old → HasFailed reads taken refusals hands_over files names request old new
  refused : (text : List ℕ) → IsCallAnswer reads files names request text None → IsRefusedAfter taken refusals hands_over text old new
      → HasFailed reads taken refusals hands_over files names request old new
