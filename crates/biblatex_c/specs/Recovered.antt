-- Meaning: words of public contracts.
-- Bibliographies recovered from texts that may have errors, and the formats in which they are written.
use Rattle.std.specs.Prelude.{◌≡◌, ◌==◌, ℕ, ⊤, List, Option, Some, None, if◌then◌else◌}
use Rattle.std.specs.Str.{IsUtf8}
use Rattle.bib_source.specs.Encoding.{windows_1252_text}
use Rattle.biblatex.specs.BibliographyRecovery.{IsRecoveredBibliography}
use Rattle.biblatex.specs.Syntax.{Bibliography, biblatex_entry, bibtex_entry, entries_text}
use Rattle.bib_syntax.specs.declared.raw.ParseError.{ParseError}
use Rattle.bib_syntax.specs.declared.raw.recovery.SkippedBlock.{SkippedBlock}
use Rattle.bib_csl.specs.declared.sentence_items.TitleCase.TheVariants.{AsWritten}
use Rattle.bibkit_convert.specs.declared.target.Target.TheVariants as target
use Rattle.biblatex_c.specs.Calls.{exported_text}
use Rattle.biblatex_c.specs.declared.recovering.ExportFormat.{ExportFormat}
use Rattle.biblatex_c.specs.declared.recovering.ExportFormat.TheVariants.{Biblatex, Bibtex, Json, Csl}
use Rattle.biblatex_c.specs.declared.status.Status.{Status}
use Rattle.biblatex_c.specs.declared.status.Status.TheVariants.{Refused, OutOfMemory}

-- the format with a number: 0 to 3 in the order of the variants, and `None` for any other number
abbrev pub format_numbered : ℕ → Option ExportFormat
format_numbered number =
    if number == 0 then Some Biblatex
    else if number == 1 then Some Bibtex
    else if number == 2 then Some Json
    else if number == 3 then Some Csl
    else None

-- the text of a bibliography in a format
abbrev pub written_in : ExportFormat → Bibliography → List ℕ
written_in Biblatex b = entries_text biblatex_entry b.entries
written_in Bibtex b = entries_text bibtex_entry b.entries
written_in Json b = exported_text target.Json b
written_in Csl b = exported_text (target.Csl AsWritten) b

-- the text that bytes decode to: the bytes themselves if they are UTF-8, otherwise their text in Windows-1252
pub data IsTextOf (bytes : List ℕ) : List ℕ → Type 0 where
  utf8 : IsUtf8 bytes → IsTextOf bytes bytes
  windows : (IsUtf8 bytes → ⊥) → IsTextOf bytes (windows_1252_text bytes)

-- `answer` is a bibliography recovered from `text`, written in `format`
pub record IsRecoveredText (format : ExportFormat) (text answer : List ℕ) : Type 0 where
  pub bibliography : Bibliography
  pub origins : List ℕ
  pub skipped : List SkippedBlock
  pub errors : List ParseError
  pub recovered : IsRecoveredBibliography text bibliography origins skipped errors
  pub is : answer ≡ written_in format bibliography

-- `answer` is a bibliography recovered from the decoded `bytes`, written in the format with this number
pub record IsRecoveredIn (number : ℕ) (bytes answer : List ℕ) : Type 0 where
  pub format : ExportFormat
  pub numbered : format_numbered number ≡ Some format
  pub text : List ℕ
  pub of_bytes : IsTextOf bytes text
  pub answers : IsRecoveredText format text answer

-- recovering in the format with this number may fail with this status: `Refused` only if no format has the number, `OutOfMemory` always,
-- and no other status
abbrev pub RecoverFails : ℕ → Status → Type 0
RecoverFails number Refused = format_numbered number ≡ None
RecoverFails number OutOfMemory = ⊤
RecoverFails number _ = ⊥
