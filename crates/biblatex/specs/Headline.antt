-- Meaning: words of public contracts.
-- The main definitions of parsing and writing: accepted texts, the bibliography and the error of a text, settled
-- bibliographies, and texts that parse back to given entries. A word that is not defined here is defined in the file that it
-- is imported from.
use Rattle.std.specs.Prelude.{ℕ, List}
use Rattle.std.specs.List.{AllZip}
use Rattle.bib_entry.specs.WrittenEntries.{biblatex_entry, entries_text}
use Rattle.bib_entry.specs.declared.entry.Entry.{Entry}
use Rattle.bib_file_entries.specs.Bibliography.{Bibliography}
use Rattle.biblatex.specs.Mapped.{IsMapped}
use Rattle.biblatex.specs.Settled.{AreSettled}
use Rattle.bib_syntax.specs.Grammar.{IsFile, IsRawReading}
use Rattle.bib_syntax.specs.Reading.{FileReading}
use Rattle.bib_syntax.specs.SyntaxErrors.{IsReported}
use Rattle.bib_syntax.specs.declared.raw.ParseError.{ParseError}
use Rattle.biblatex.specs.Resolved.{IsAccepted, IsFirstErrorOf, IsLoaded}

-- a text is accepted: the file grammar parses it to a raw bibliography, and that is accepted
pub record IsAcceptedText (text : List ℕ) : Type 0 where
  pub says : FileReading
  pub reading : IsRawReading text says
  pub accepted : IsAccepted says

-- a bibliography of a text: its entries in order, with the fields that solve the inheritance equation, and their names
pub record IsBibliographyOf (text : List ℕ) (bibliography : Bibliography) : Type 0 where
  pub says : FileReading
  pub reading : IsRawReading text says
  pub loaded : IsLoaded says bibliography

-- an error of a text: a syntax error that the file grammar reports, if it doesn't accept the text; otherwise the first error
-- of the raw bibliography
pub data IsErrorOf (text : List ℕ) (e : ParseError) : Type 0 where
  syntax : IsReported text e → (IsFile text → ⊥) → IsErrorOf text e
  first : {says : FileReading} → IsRawReading text says → IsFirstErrorOf says e → IsErrorOf text e

-- a settled bibliography: each entry is settled, and no two have the same key
abbrev pub IsSettledBibliography : Bibliography → Type 0
IsSettledBibliography bibliography = AreSettled bibliography.entries

-- the text of a bibliography in BibLaTeX's types and fields
abbrev pub biblatex_text : Bibliography → List ℕ
biblatex_text bibliography = entries_text biblatex_entry bibliography.entries

-- a text parses back to these entries: it is accepted, and its bibliography has them in order. The type and the fields of
-- each are mapped to BibLaTeX's (`IsMapped`)
pub record IsReadAgain (entries : List Entry) (text : List ℕ) : Type 0 where
  pub accepted : IsAcceptedText text
  pub mapped : (read : Bibliography) → IsBibliographyOf text read → AllZip IsMapped entries read.entries
