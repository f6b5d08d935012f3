-- Meaning: words of public contracts.
-- The outputs of the tasks, and their status.
use Rattle.std.specs.Prelude.{◌≡◌, ◌&&◌, ◌||◌, ℕ, Bool, true, false, not, if◌then◌else◌, List, [], codes, MatchOption, string_bytes}
use Rattle.std.specs.Str.{IsUtf8}
use Rattle.bib_source.specs.Encoding.{without_byte_order_mark, windows_1252_text, IsFirstInvalid}
use Rattle.bib_source.specs.declared.decoding.Decoded.{Decoded}
use Rattle.bib_queries.specs.Answers.{IsTextAnswer}
use Rattle.bib_queries.specs.declared.request.Request.{Request}
use Rattle.bib_queries.specs.declared.request.Request.TheVariants.{Keys}
use Rattle.bibkit_core.specs.Linted.{IsPrintedFile}
use Rattle.bibkit_core.specs.Checkstyle.{checkstyle_head, checkstyle_tail, file_element}
use Rattle.bibkit_core.specs.Printed.{counts_line, has_failing}
use Rattle.bibkit_core.specs.Sarif.{IsSarifTail, sarif_head}
use Rattle.bibkit_core.specs.Skipped.{AddsSkipped}
use Rattle.bibkit_core.specs.declared.entries.Entries.{Entries}
use Rattle.bibkit_core.specs.declared.linting.Linting.{Linting}
use Rattle.bibkit_core.specs.declared.request.FailOn.{FailOn}
use Rattle.bibkit_core.specs.declared.request.Lint.{Lint}
use Rattle.bibkit_core.specs.declared.request.Style.{Style}
use Rattle.bibkit_core.specs.declared.request.Style.TheVariants.{Plain, Colored, Json, JsonLines, Github, Checkstyle, Sarif}
use Rattle.bibkit_core.specs.declared.skipped.Skipped.{Skipped}
use Rattle.bibkit_core.specs.declared.tally.Tally.{Tally}

-- `decoded` is the text of the bytes: without a byte order mark if they are UTF-8, otherwise decoded as Windows-1252. `invalid` is the
-- offset of the first byte that isn't UTF-8, or `None` for UTF-8.
pub record AreDecoded (bytes : List ℕ) (decoded : Decoded) : Type 0 where
  pub utf8 : IsUtf8 (without_byte_order_mark bytes) → string_bytes decoded.text ≡ without_byte_order_mark bytes
  pub windows : ¬ (IsUtf8 (without_byte_order_mark bytes)) → string_bytes decoded.text ≡ windows_1252_text bytes
  pub invalid : MatchOption decoded.invalid (IsUtf8 (without_byte_order_mark bytes)) (IsFirstInvalid bytes)

-- the text before findings: the start of the array in JSON, or of the document for Checkstyle and SARIF, otherwise none
abbrev pub opening : Style → List ℕ
opening Json = codes "["
opening Checkstyle = checkstyle_head
opening Sarif = sarif_head
opening _ = []

-- `text` is the text after findings: the line with the counts in the styles `Plain` and `Colored`, the end of the array in JSON, or of the
-- document for Checkstyle and SARIF; otherwise it is empty
abbrev pub IsEndOfFindings : Style → Tally → List ℕ → Type 0
IsEndOfFindings Plain tally text = text ≡ counts_line tally
IsEndOfFindings Colored tally text = text ≡ counts_line tally
IsEndOfFindings Json tally text = text ≡ codes "\n]\n"
IsEndOfFindings JsonLines tally text = text ≡ []
IsEndOfFindings Github tally text = text ≡ []
IsEndOfFindings Checkstyle tally text = text ≡ checkstyle_tail
IsEndOfFindings Sarif tally text = IsSarifTail text

-- the output for the file with this name, from the text of its findings: for Checkstyle the element of the file, otherwise
-- the text itself
abbrev pub in_file : Style → List ℕ → List ℕ → List ℕ
in_file Checkstyle name text = file_element name text
in_file _ name text = text

-- the status of `lint`: 1 if there are findings of at least the severity of the setting (with `Never`, none count), otherwise 0
abbrev pub lint_status : FailOn → Tally → ℕ
lint_status fail_on tally = if has_failing fail_on tally then 1 else 0

-- `text` is the text of the selected findings of a file with these bytes, with the counts before and after them
pub record PrintsFindings (lint : Lint) (name bytes : List ℕ) (before : Tally) (text : List ℕ) (after : Tally) : Type 0 where
  pub decoded : Decoded
  pub of_bytes : AreDecoded bytes decoded
  pub printed : IsPrintedFile lint name bytes decoded before text after

-- `text` is the output for a request for entries or keys of a file with these bytes; `has_entry` says whether the output has one
pub record PrintsEntries (request : Request) (bytes text : List ℕ) (has_entry : Bool) : Type 0 where
  pub decoded : Decoded
  pub of_bytes : AreDecoded bytes decoded
  pub answer : IsTextAnswer request (string_bytes decoded.text) text has_entry

-- whether a request is a search: any request except that for all keys; a search that finds nothing has the status 1
abbrev pub is_search : Request → Bool
is_search Keys = false
is_search _ = true

-- the status of a request for entries: 1 for a search that found nothing, and for a skipped block, otherwise 0
abbrev pub entries_status : Request → Bool → Bool → ℕ
entries_status request is_found has_skipped = if has_skipped || (is_search request && not is_found) then 1 else 0

-- `new` has the lines for the next file, with this name and these bytes
abbrev pub AddsSkippedOf : List ℕ → List ℕ → Skipped → Skipped → Type 0
AddsSkippedOf name bytes old new = (decoded : Decoded) × AreDecoded bytes decoded × AddsSkipped old name (string_bytes decoded.text) new

-- the lint task before the first file
pub record BeginsLinting (lint : Lint) (task : Linting) : Type 0 where
  pub lint_is : task.lint.now ≡ lint
  pub no_errors : task.tally.errors ≡ 0
  pub no_warnings : task.tally.warnings ≡ 0
  pub no_infos : task.tally.infos ≡ 0

-- the text of the lint task before the files
abbrev pub linting_begins : Linting → List ℕ
linting_begins task = opening task.lint.now.style

-- the output of the lint task for a file, and the task afterwards
abbrev pub linting_prints : Linting → List ℕ → List ℕ → List ℕ → Linting → Type 0
linting_prints old name bytes text new =
    (new.lint.now ≡ old.lint.now)
    × ((found : List ℕ) × PrintsFindings old.lint.now name bytes old.tally found new.tally × (text ≡ in_file old.lint.now.style name found))

-- the text of the lint task after the files, and its status
abbrev pub linting_ends : Linting → List ℕ → ℕ → Type 0
linting_ends task text status =
    IsEndOfFindings task.lint.now.style task.tally text × (status ≡ lint_status task.lint.now.fail_on task.tally)

-- the entries task before the first file
pub record BeginsEntries (request : Request) (task : Entries) : Type 0 where
  pub request_is : task.request.now ≡ request
  pub none_found : task.is_found ≡ false
  pub none_skipped : task.skipped.has_any ≡ false

-- the text of the entries task before the files: none
abbrev pub entries_begins : Entries → List ℕ
entries_begins task = []

-- the output of the entries task for a file, and the task afterwards; `is_found` says whether the output so far has an entry or a key, and
-- `skipped` has the lines for the skipped blocks of the file
abbrev pub entries_prints : Entries → List ℕ → List ℕ → List ℕ → Entries → Type 0
entries_prints old name bytes text new =
    (new.request.now ≡ old.request.now)
    × ((has_entry : Bool) × PrintsEntries old.request.now bytes text has_entry × (new.is_found ≡ (old.is_found || has_entry)))
    × AddsSkippedOf name bytes old.skipped new.skipped

-- the messages of the entries task about the last file: a line for each skipped block
abbrev pub entries_messages : Entries → List ℕ
entries_messages task = string_bytes task.skipped.lines

-- the text of the entries task after the files (none), and its status
abbrev pub entries_ends : Entries → List ℕ → ℕ → Type 0
entries_ends task text status = (text ≡ []) × (status ≡ entries_status task.request.now task.is_found task.skipped.has_any)
