-- The output of a task is an output of its request, and the stop of a run is a failure of its request.
use Rattle.std.proofs.Common.{◌≡◌, ◌≤◌, ◌&&◌, ◌||◌, ℕ, List, Bor, Bool, true, false, not, refl, sym, subst, ◌∙◌, arith}
use Rattle.std.specs.Prelude.{Option, Some, None, IfSome, if◌then◌else◌}
use Rattle.bib_queries.specs.declared.citations.Citations.{Citations}
use Rattle.bib_queries.specs.declared.request.CitedKeys.{CitedKeys}
use Rattle.bib_queries.specs.declared.request.Request.{Request as Excerpts}
use Rattle.bib_queries.specs.declared.request.Request.TheVariants as excerpts
use Rattle.bib_findings.specs.declared.codes.Code.{Code}
use Rattle.bibkit_core.specs.Answered.{AsksForCited, CantReadDocument, HasFailed, IsCallAnswer, IsDocumentFor, is_database}
use Rattle.bibkit_core.specs.Compared.{AreCitedBy, ReadsDocument}
use Rattle.bibkit_core.specs.Marks.{BeginsDocument}
use Rattle.bibkit_core.specs.Outcomes.{HasPrinted}
use Rattle.bibkit_core.specs.Printed.{has_failing}
use Rattle.bibkit_core.specs.Running.{IsTaskPrinted}
use Rattle.bibkit_core.specs.Selecting.{selecting_status}
use Rattle.bibkit_core.specs.Steps.{AreComparedPrinted, AreEntriesPrinted, AreFindingsPrinted, AreSelectedPrinted, HasNoText, HasStopped, IsComparedDatabase, IsDatabasePrinted, IsMeaningPrinted, ReadsText}
use Rattle.bibkit_core.specs.Tasks.{entries_status, is_search, lint_status}
use Rattle.bibkit_core.specs.declared.cited.Document.{Document}
use Rattle.bibkit_core.specs.declared.request.Cited.{Cited}
use Rattle.bibkit_core.specs.declared.request.FailOn.{FailOn}
use Rattle.bibkit_core.specs.declared.request.Lint.{Lint}
use Rattle.bibkit_core.specs.declared.request.Request.{Request}
use Rattle.bibkit_core.specs.declared.request.Request.TheVariants as request
use Rattle.bibkit_core.specs.declared.request.Selected.{Selected}
use Rattle.bibkit_core.specs.declared.tally.Tally.{Tally}
use Rattle.bibkit_core.specs.declared.run.Stop.{Stop}
use Rattle.bibkit_core.specs.declared.run.Stop.TheVariants.{Refused, NoDocument, OutOfMemory}

-- the output of `lint` without a document, if the files aren't one database, is an output of its request; the next lemmas state this for
-- the other tasks
pub findings_answer : {F : Type 0} {reads : F → List ℕ → Option (List ℕ) → F → Type 0} {files : F}
    {names : List (List ℕ)} {lint : Lint} → is_database lint names ≡ false → lint.cited ≡ None → (text : List ℕ) (status : Option ℕ)
    → AreFindingsPrinted reads lint files names text status → IsCallAnswer reads files names (request.Lint lint) text status
findings_answer each none text status are = IsCallAnswer.findings are.task each none are.begins are.printed

pub compared_answer : {F : Type 0} {reads : F → List ℕ → Option (List ℕ) → F → Type 0} {files : F}
    {names : List (List ℕ)} {lint : Lint} (cited : Cited) → is_database lint names ≡ false → lint.cited ≡ Some cited
    → (text : List ℕ) (status : Option ℕ)
    → AreComparedPrinted reads lint cited files names text status → IsCallAnswer reads files names (request.Lint lint) text status
compared_answer cited each some text status are =
    IsCallAnswer.compared cited are.found are.document are.files' each some are.read are.printed

pub database_answer : {F : Type 0} {reads : F → List ℕ → Option (List ℕ) → F → Type 0} {files : F}
    {names : List (List ℕ)} {lint : Lint} → is_database lint names ≡ true → lint.cited ≡ None → (text : List ℕ) (status : Option ℕ)
    → IsDatabasePrinted reads lint None files names text status → IsCallAnswer reads files names (request.Lint lint) text status
database_answer one none text status is = IsCallAnswer.database is.task one none is.begins is.printed

pub compared_database_answer : {F : Type 0} {reads : F → List ℕ → Option (List ℕ) → F → Type 0} {files : F}
    {names : List (List ℕ)} {lint : Lint} (cited : Cited) → is_database lint names ≡ true → lint.cited ≡ Some cited
    → (text : List ℕ) (status : Option ℕ)
    → IsComparedDatabase reads lint cited files names text status → IsCallAnswer reads files names (request.Lint lint) text status
compared_database_answer cited one some text status is =
    IsCallAnswer.compared_database cited is.document is.files' is.printed.task one some is.read is.printed.begins is.printed.printed

pub entries_answer : {F : Type 0} {reads : F → List ℕ → Option (List ℕ) → F → Type 0} {files : F}
    {names : List (List ℕ)} {asked : Excerpts} (text : List ℕ) (status : Option ℕ)
    → AreEntriesPrinted reads asked files names text status → IsCallAnswer reads files names (request.Entries asked) text status
entries_answer text status are = IsCallAnswer.entries are.task are.begins are.printed

pub selected_answer : {F : Type 0} {reads : F → List ℕ → Option (List ℕ) → F → Type 0} {files : F}
    {names : List (List ℕ)} {selected : Selected} (text : List ℕ) (status : Option ℕ)
    → AreSelectedPrinted reads selected files names text status → IsCallAnswer reads files names (request.Selected selected) text status
selected_answer text status are = IsCallAnswer.selected are.task are.begins are.printed

pub cited_answer : {F : Type 0} {reads : F → List ℕ → Option (List ℕ) → F → Type 0} {files files' : F}
    {names : List (List ℕ)} (name : Bor (List ℕ)) (found : Citations) (document : List ℕ) (asked : CitedKeys)
    → ReadsDocument reads files name.now files' document found → AsksForCited found asked → (text : List ℕ) (status : Option ℕ)
    → AreEntriesPrinted reads (excerpts.Cited asked) files' names text status
    → IsCallAnswer reads files names (request.Cited name) text status
cited_answer {files' = files'} name found document asked read asks text status are =
    IsCallAnswer.cited found document files' asked are.task read asks are.begins are.printed

pub meaning_answer : {F : Type 0} {reads : F → List ℕ → Option (List ℕ) → F → Type 0} {files : F}
    {names : List (List ℕ)} {c : Code} (text : List ℕ) (status : Option ℕ)
    → IsMeaningPrinted c text status → IsCallAnswer reads files names (request.Explain c) text status
meaning_answer text status IsMeaningPrinted.nothing = IsCallAnswer.no_meaning
meaning_answer text status (IsMeaningPrinted.all meaning) = IsCallAnswer.meaning meaning

-- if a file is decoded to a text with these citations, then the file of the document is read
pub document_read : {F : Type 0} {reads : F → List ℕ → Option (List ℕ) → F → Type 0} {files files' : F}
    {name text : List ℕ} {found : Citations} (document : List ℕ) → document ≡ text
    → ReadsText reads files name files' text
    → AreCitedBy name document found → ReadsDocument reads files name files' document found
document_read document same read cited = record {
  bytes = read.bytes;
  decoded = read.decoded;
  read = read.read;
  of_bytes = read.of_bytes;
  text_is = same ∙ read.text_is;
  cited = cited;
}

-- if a file is decoded to a text, then a document with this text, the name and the setting of a request is that of the request
pub document_for : {F : Type 0} {reads : F → List ℕ → Option (List ℕ) → F → Type 0} {files files' : F} {text : List ℕ}
    {document : Document} (cited : Cited) (file : List ℕ) → file ≡ text → ReadsText reads files cited.name.now files' text
    → BeginsDocument cited.name.now file cited.has_unused document → IsDocumentFor reads files cited files' document
document_for {reads = reads} {files = files} {files' = files'} {document = document} cited file same read begins = record {
  name_is = begins.name_is;
  unused_is = begins.unused_is;
  read =
      subst (λ t. ReadsDocument reads files cited.name.now files' t document.citations) (sym begins.text_is)
      (document_read file same read begins.cited);
}

-- a run stops if the text of its document is missing
pub stopped_without_text : {F K : Type 0} (reads : F → List ℕ → Option (List ℕ) → F → Type 0)
    {taken : K → Option (List ℕ)} {refusals : K → ℕ} {hands_over : K → List ℕ → Bool → K → Type 0}
    {P : List ℕ → Option ℕ → Type 0} {Unread : Type 0}
    (files files' : F) (name : List ℕ) (k : K) (stop : Stop) → (reads files name None files' → Unread)
    → HasNoText reads files name files' stop → HasStopped taken refusals hands_over P Unread k k stop
stopped_without_text reads files files' name k Refused so none = absurd none
stopped_without_text reads files files' name k NoDocument so none = HasStopped.no_document (so none) refl
stopped_without_text reads files files' name k OutOfMemory so none = HasStopped.no_memory refl

-- a run that stops because the output refused a text has failed
pub refused_failed : {F K : Type 0} {reads : F → List ℕ → Option (List ℕ) → F → Type 0} {taken : K → Option (List ℕ)}
    {refusals : K → ℕ} {hands_over : K → List ℕ → Bool → K → Type 0} {files : F} {names : List (List ℕ)}
    {asked : Request} {old new : K}
    → HasStopped taken refusals hands_over (IsCallAnswer reads files names asked)
    (CantReadDocument reads files asked) old new Refused
    → HasFailed reads taken refusals hands_over files names asked old new
refused_failed (HasStopped.refused text prints after) = HasFailed.refused text prints after

-- a run that stops because the file of the document can't be read has failed
pub unread_failed : {F K : Type 0} {reads : F → List ℕ → Option (List ℕ) → F → Type 0} {taken : K → Option (List ℕ)}
    {refusals : K → ℕ} {hands_over : K → List ℕ → Bool → K → Type 0} {files : F} {names : List (List ℕ)}
    {asked : Request} {old new : K}
    → HasStopped taken refusals hands_over (IsCallAnswer reads files names asked)
    (CantReadDocument reads files asked) old new NoDocument
    → HasFailed reads taken refusals hands_over files names asked old new
unread_failed (HasStopped.no_document unread same) = HasFailed.no_document unread same

-- a run that stops out of memory leaves the count of refusals unchanged
pub memory_same : {K : Type 0} {taken : K → Option (List ℕ)} {refusals : K → ℕ}
    {hands_over : K → List ℕ → Bool → K → Type 0} {P : List ℕ → Option ℕ → Type 0} {Unread : Type 0} {old new : K}
    → HasStopped taken refusals hands_over P Unread old new OutOfMemory → refusals new ≡ refusals old
memory_same (HasStopped.no_memory same) = same

-- if the status at the end of a task is at most 2, so is that of its run, which is 2 if a file can't be read
bounded_if : (b : Bool) (status : ℕ) → status ≤ 2 → (if b then status else 2) ≤ 2
bounded_if true status bound = bound
bounded_if false status bound = omega arith

lint_bounded : (fail_on : FailOn) (tally : Tally) → lint_status fail_on tally ≤ 2
lint_bounded fail_on tally =
    elim (has_failing fail_on tally) as (λ b. (if b then 1 else 0) ≤ 2)
    [ true ↦ omega arith | false ↦ omega arith ]

entries_bounded : (asked : Excerpts) (is_found has_skipped : Bool) → entries_status asked is_found has_skipped ≤ 2
entries_bounded asked is_found has_skipped =
    elim (has_skipped || (is_search asked && not is_found)) as (λ b. (if b then 1 else 0) ≤ 2)
    [ true ↦ omega arith | false ↦ omega arith ]

selecting_bounded : (is_found has_skipped : Bool) → selecting_status is_found has_skipped ≤ 2
selecting_bounded is_found has_skipped =
    elim (is_found && not has_skipped) as (λ b. (if b then 0 else 1) ≤ 2)
    [ true ↦ omega arith | false ↦ omega arith ]

-- if each end of a task has a status of at most 2, so has its whole output
task_bounded : {F T : Type 0} {reads : F → List ℕ → Option (List ℕ) → F → Type 0} {begins : T → List ℕ}
    {prints : T → List ℕ → List ℕ → List ℕ → T → Type 0} {ends : T → List ℕ → ℕ → Type 0} {files : F} {task : T}
    {names : List (List ℕ)} {text : List ℕ} {status : Option ℕ}
    → ((t : T) (last : List ℕ) (s : ℕ) → ends t last s → s ≤ 2)
    → IsTaskPrinted reads begins prints ends files task names text status → IfSome status (λ s. s ≤ 2)
task_bounded bound IsTaskPrinted.nothing = tt
task_bounded bound (IsTaskPrinted.first done rest parts run) = tt
task_bounded bound (IsTaskPrinted.all answer) =
    subst (λ s. s ≤ 2) (sym answer.status_is)
    (bounded_if answer.are_read answer.end_status (bound answer.task' answer.last answer.end_status answer.ended))

call_bounded : {F : Type 0} {reads : F → List ℕ → Option (List ℕ) → F → Type 0} {files : F} {names : List (List ℕ)}
    {asked : Request} {text : List ℕ} {status : Option ℕ} → IsCallAnswer reads files names asked text status
    → IfSome status (λ s. s ≤ 2)
call_bounded (IsCallAnswer.findings task each none begins printed) =
    task_bounded (λ t last s e. subst (λ n. n ≤ 2) (sym e.1) (lint_bounded t.lint.now.fail_on t.tally)) printed
call_bounded (IsCallAnswer.compared cited found document files' each some read printed) =
    task_bounded (λ t last s e. subst (λ n. n ≤ 2) (sym e.status_is) (lint_bounded _ e.after)) printed
call_bounded (IsCallAnswer.database task one none begins printed) =
    task_bounded (λ t last s e. subst (λ n. n ≤ 2) (sym e.status_is) (lint_bounded _ e.after)) printed
call_bounded (IsCallAnswer.compared_database cited document files' task one some read begins printed) =
    task_bounded (λ t last s e. subst (λ n. n ≤ 2) (sym e.status_is) (lint_bounded _ e.after)) printed
call_bounded (IsCallAnswer.meaning text) = omega arith
call_bounded IsCallAnswer.no_meaning = tt
call_bounded (IsCallAnswer.entries task begins printed) =
    task_bounded (λ t last s e. subst (λ n. n ≤ 2) (sym e.1) (entries_bounded t.request.now t.is_found t.skipped.has_any)) printed
call_bounded (IsCallAnswer.selected task begins printed) =
    task_bounded (λ t last s e. subst (λ n. n ≤ 2) (sym e.1) (selecting_bounded t.is_found t.skipped.has_any)) printed
call_bounded (IsCallAnswer.cited found document files' asked task read asks begins printed) =
    task_bounded (λ t last s e. subst (λ n. n ≤ 2) (sym e.1) (entries_bounded t.request.now t.is_found t.skipped.has_any)) printed
call_bounded (IsCallAnswer.counts printed) = task_bounded (λ t last s e. subst (λ n. n ≤ 2) (sym e.done) (omega arith)) printed

-- the status of a whole output is at most 2
pub printed_bound : {F K : Type 0} {reads : F → List ℕ → Option (List ℕ) → F → Type 0} {files : F}
    {names : List (List ℕ)} {asked : Request} {taken : K → Option (List ℕ)} {old new : K} {status : ℕ}
    → HasPrinted taken (IsCallAnswer reads files names asked) old new status → status ≤ 2
printed_bound has = call_bounded has.prints
