-- Meaning: words of public contracts.
-- Definitions that the contracts of this crate's users cite.
pub use Rattle.bib_abbreviations.specs.Abbreviations.{Evaluates, IsFirstError, IsReadable, defined_in}
pub use Rattle.bib_contents.specs.Contents.{IsContent}
pub use Rattle.bib_syntax.specs.Errors.{Refuses, error_text, out_of_memory}
pub use Rattle.bib_syntax.specs.Grammar.{IsFile, IsRawReading}
pub use Rattle.bib_syntax.specs.Reading.{EntryReading, FileReading, Part}
pub use Rattle.bib_syntax.specs.SyntaxErrors.{IsReported}
pub use Rattle.bib_syntax.specs.Views.{entry_reading_of, file_of}
pub use Rattle.bib_syntax.specs.declared.raw.ParseError.{ParseError}
pub use Rattle.bib_syntax.specs.declared.raw.ParseErrorKind.{ParseErrorKind}
pub use Rattle.bib_syntax.specs.declared.raw.ParseErrorKind.TheVariants.{OutOfMemory, UnknownAbbreviation, DuplicateKey, AbbreviationCycle, ReferenceCycle}
pub use Rattle.bib_entry.specs.Reports.{AreMalformed, missing_of, superfluous_of}
pub use Rattle.bib_entry.specs.WrittenEntries.{biblatex_entry, bibtex_entry, entries_text}
pub use Rattle.bib_entry.specs.declared.entry.Entry.{Entry}
pub use Rattle.bib_file_entries.specs.Bibliography.{Bibliography}
pub use Rattle.biblatex.specs.Mapped.{IsMapped}
pub use Rattle.biblatex.specs.Settled.{AreSettled}
pub use Rattle.bib_tables.specs.TypeError.{type_kind_text}
pub use Rattle.bib_tables.specs.declared.type_error.TypeError.{TypeError}
pub use Rattle.bib_tables.specs.Requirements.{Names, texts}
