-- Meaning: words of public contracts.
-- Several files in one text, and their recovery. BibTeX and Biber read the files of a document in turn, as one database. An error in a file
-- ends with the file.
use Rattle.std.specs.Prelude.{◌≡◌, ℕ, ◌+◌, ◌≤◌, List, [], ◌∷◌, ◌++◌, ⊤, Some, length, slice_get, take, true}
use Rattle.bib_text.specs.Characters as char
use Rattle.bib_text.specs.Places.{place}
use Rattle.bib_syntax.specs.Reading.{FileReading, empty_reading, then}
use Rattle.bib_syntax.specs.Recovery.{Recovered}
use Rattle.bib_syntax.specs.declared.raw.recovery.SkippedBlock.{SkippedBlock}

-- The text of several files, and the offset at which each file ends. A percent sign and a line feed follow each file. The percent sign
-- separates the text after the last entry of a file from the next file.
pub record FilesText : Type 0 where
  pub text : List ℕ
  pub ends : List ℕ

-- the text of no files
abbrev pub no_files : FilesText
no_files = record { text = []; ends = [] }

-- the text of these files and of one more
abbrev pub with_next : FilesText → List ℕ → FilesText
with_next files file = record {
  text = files.text ++ (file ++ char.percent ∷ char.line_feed ∷ []);
  ends = files.ends ++ (length files.text + length file) ∷ [];
}

-- whether files end at these offsets of a text. The first file begins at `start`. A percent sign and a line feed follow each file, and the
-- next file begins after them.
abbrev pub AreFiles : List ℕ → ℕ → List ℕ → Type 0
AreFiles text start [] = ⊤
AreFiles text start (end ∷ ends) =
    (start ≤ end) × (slice_get text end ≡ Some char.percent) × (slice_get text (end + 1) ≡ Some char.line_feed)
    × AreFiles text (end + 2) ends

-- The full recovery of files in a text, the first of which begins at `start`. Each ends at one of these offsets, and is
-- recovered as if the text ended there. The next one begins after the percent sign and the line feed at this offset.
pub data RecoveredFrom (text : List ℕ) : ℕ → List ℕ → FileReading → List SkippedBlock → Type 0 where
  none : {start : ℕ} → RecoveredFrom text start [] empty_reading []
  file : {start end : ℕ} {ends : List ℕ} {first rest : FileReading} {errors others : List SkippedBlock}
      → Recovered true (place (take end text) start) first errors → RecoveredFrom text (end + 2) ends rest others
      → RecoveredFrom text start (end ∷ ends) (then first rest) (errors ++ others)

-- `says` is the content of these files, with the complete parts of their skipped blocks, and `errors` are the skipped blocks
abbrev pub AreFilesRecovered : FilesText → FileReading → List SkippedBlock → Type 0
AreFilesRecovered files says errors = RecoveredFrom files.text 0 files.ends says errors
