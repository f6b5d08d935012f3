-- Meaning: words of public contracts.
-- All findings of the text of a file: those of the skipped blocks and errors of recovery, those of each kept entry, those between entries,
-- and those of unused abbreviations. Findings about the bytes of the file or about documents aren't among them.
use Rattle.std.specs.Prelude.{◌≡◌, ℕ, Bool, List, [], ◌++◌, map}
use Rattle.std.specs.declared.ops.Range.{Range}
use Rattle.std.specs.List.Sorted.{IsPermutation, IsSortedByKey, IsStableByKey}
use Rattle.std.specs.Ordering.{nat_cmp}
use Rattle.bib_tables.specs.Requirements.{Names}
use Rattle.bib_entry.specs.declared.entry.Entry.{Entry}
use Rattle.bib_file_entries.specs.Claiming.{IsKeptSoFar}
use Rattle.bib_file_entries.specs.Loaded.{definition_in}
use Rattle.bib_inheritance.specs.Recovered.{AreRecovered}
use Rattle.bib_syntax.specs.Reading.{EntryReading, FieldReading, FileReading}
use Rattle.bib_syntax.specs.Recovery.{IsFullRecovery}
use Rattle.bib_syntax.specs.Views.{entry_reading_of}
use Rattle.bib_syntax.specs.declared.raw.ParseError.{ParseError}
use Rattle.bib_syntax.specs.declared.raw.RawEntry.{RawEntry}
use Rattle.bib_text.specs.declared.spanned.Spanned.{Spanned}
use Rattle.bib_syntax.specs.declared.raw.recovery.SkippedBlock.{SkippedBlock}
use Rattle.bib_collections.specs.Sorted.{ByText}
use Rattle.bib_findings.specs.StandardNumbers.{number_findings}
use Rattle.bib_findings.specs.Comments.{comment_findings}
use Rattle.bib_findings.specs.Cuts.{whole_among}
use Rattle.bib_findings.specs.Definitions.{definition_findings}
use Rattle.bib_findings.specs.Duplicates.{duplicates, entries_at}
use Rattle.bib_findings.specs.Entries.{AreOfEach}
use Rattle.bib_findings.specs.Errors.{block_finding, error_finding}
use Rattle.bib_findings.specs.Fields.{address_findings, empty_findings, key_findings, repeated_findings}
use Rattle.bib_findings.specs.Once.{once_findings}
use Rattle.bib_findings.specs.Html.{printed_findings}
use Rattle.bib_findings.specs.KeyCases.{case_findings}
use Rattle.bib_findings.specs.Lacking.{AreLacking, with_flags}
use Rattle.bib_findings.specs.MalformedDates.{date_findings}
use Rattle.bib_findings.specs.Names.{misspelled_findings}
use Rattle.bib_findings.specs.ParentOrder.{early_findings}
use Rattle.bib_findings.specs.People.{name_findings}
use Rattle.bib_findings.specs.Quotes.{defined_quotes, quote_findings}
use Rattle.bib_findings.specs.References.{AreReferences}
use Rattle.bib_findings.specs.Reported.{AreOfReport, reported_missing}
use Rattle.bib_findings.specs.Stray.{stray_findings}
use Rattle.bib_findings.specs.Types.{type_findings}
use Rattle.bib_findings.specs.UnusedDefinitions.{unused_definition_findings}
use Rattle.bib_findings.specs.Urls.{url_findings}
use Rattle.bib_findings.specs.Years.{year_findings}
use Rattle.bib_findings.specs.declared.finding.Finding.{Finding}

-- the raw entries of a file, in order
abbrev pub entries_said : List (Spanned RawEntry) → List EntryReading
entries_said = map entry_reading_of

-- the findings of an empty key, repeated and empty fields, wrong numbers, a DOI with an address or a scheme, a URL without a scheme, and
-- malformed dates of an entry with these missing fields
abbrev pub own_findings : Names → EntryReading → Entry → List Finding
own_findings missing said entry =
    key_findings said
    ++ (repeated_findings said
    ++ (empty_findings missing said
    ++ (number_findings said ++ (address_findings said ++ (url_findings said ++ date_findings said entry)))))

-- the findings of two different years, malformed names, and HTML or special characters of an entry
abbrev pub text_findings : EntryReading → Entry → List Finding
text_findings said entry = year_findings said entry ++ (name_findings said ++ printed_findings said)

-- the findings of a key and of single fields of an entry with these missing fields
abbrev pub single_findings : Names → EntryReading → Entry → List Finding
single_findings missing said entry = own_findings missing said entry ++ text_findings said entry

-- whether these are the findings of an entry, with its raw form `said` and these missing fields. First comes that of its type, then those
-- of its report, of misspelled field names, and of its key and its single fields
pub record AreOfEntry (missing : Names) (said : EntryReading) (entry : Entry) (found : List Finding) : Type 0 where
  pub of_report : List Finding
  pub report : AreOfReport missing said entry of_report
  pub are : found ≡ type_findings said ++ (of_report ++ (misspelled_findings said ++ single_findings missing said entry))

-- whether these are the findings of an entry of a recovered file, with its raw form `one`. The entry comes after a flag: whether fields of
-- it may be lost. If they may, no field is reported as missing
abbrev pub AreOfKept : EntryReading → Bool × Entry → List Finding → Type 0
AreOfKept one flagged found = AreOfEntry (reported_missing flagged.0 one flagged.1) one flagged.1 found

-- the findings of text that BibTeX or Biber reads otherwise: comments in these entries, and texts in quotes with unbalanced braces in them
-- and in these definitions
abbrev pub reading_findings : List ℕ → List EntryReading → List FieldReading → List Finding
reading_findings text entries definitions =
    comment_findings text entries ++ (quote_findings text entries ++ defined_quotes text definitions)

-- whether `found` is `all`, sorted by the start of the span; findings with the same start keep their order
pub record AreSortedByPlace (all found : List Finding) : Type 0 where
  pub same : IsPermutation all found
  pub sorted : IsSortedByKey (λ f. f.span.start) nat_cmp found
  pub stable : IsStableByKey (λ f. f.span.start) nat_cmp all found

-- whether these are the findings between entries, in this order: keys that no kept entry has; entries that are likely the same work; text
-- after an entry that reads as a field; keys that differ only in ASCII case; parents that come before their children; names that are
-- reported once in a file; abbreviations that are defined again with another value; text that BibTeX or Biber reads otherwise. A cut
-- entry is no likely duplicate, and the text after it isn't tested. If the text is that of several files, they end at the offsets `ends`.
pub record AreBetween (text ends : List ℕ) (skipped : List SkippedBlock) (names : ByText ℕ) (said : List EntryReading)
    (origins : List ℕ) (own : List Entry) (definitions : List FieldReading) (found : List Finding) : Type 0 where
  pub of_keys : List Finding
  pub keys : AreOfEach (AreReferences names) said origins own of_keys
  pub are : found
      ≡ of_keys
      ++ (duplicates (whole_among skipped (entries_at said origins))
      ++ (stray_findings text (whole_among skipped (entries_at said origins))
      ++ (case_findings (entries_at said origins)
      ++ (early_findings (entries_at said origins)
      ++ (once_findings ends (entries_at said origins)
      ++ (definition_findings definitions ++ reading_findings text (entries_at said origins) definitions))))))

-- whether these are the findings of a recovered file, sorted by their starts: those of skipped blocks, of errors, of each kept
-- entry, and those between entries. `lacking` says of each kept entry whether fields of it may be lost. `definitions` are the file's
-- definitions of abbreviations
pub record AreFindingsIn (text : List ℕ) (skipped : List SkippedBlock) (lacking : List Bool) (definitions : List FieldReading)
    (errors : List ParseError) (said : List EntryReading)
    (origins : List ℕ) (entries : List Entry) (between found : List Finding) : Type 0 where
  pub of_entries : List Finding
  pub reports : AreOfEach AreOfKept said origins (with_flags lacking entries) of_entries
  pub sorted : AreSortedByPlace
      (map (block_finding text said) skipped ++ (map (error_finding definitions) errors ++ (of_entries ++ between))) found

-- whether these are the findings of a recovered text with this content and these skipped blocks. The text may be that of several files,
-- which end at the offsets `ends`. The content includes the complete parts of the skipped blocks. The findings of a kept entry also use the
-- fields that it inherits. The findings between entries use only the fields that each entry has itself.
pub record AreFindingsOf (text ends : List ℕ) (says : FileReading) (skipped : List SkippedBlock) (found : List Finding) : Type 0 where
  pub own : List Entry
  pub names : ByText ℕ
  pub places : List (Range ℕ)
  pub origins : List ℕ
  pub of_entries : List ParseError
  pub kept : IsKeptSoFar (definition_in says.abbreviations) says.entries own names places origins of_entries
  pub lacking : List Bool
  pub are_lacking : AreLacking skipped names says.entries origins own lacking
  pub entries : List Entry
  pub of_references : List ParseError
  pub resolved : AreRecovered places names own entries of_references
  pub between : List Finding
  pub are_between : AreBetween text ends skipped names says.entries origins own says.abbreviations between
  pub are : AreFindingsIn text skipped lacking says.abbreviations (of_entries ++ of_references) says.entries origins entries between found

-- whether these are all findings of a file with this text: those of the recovered text, and those of the abbreviations that nothing in
-- this text uses, sorted by their starts
pub record AreFindings (text : List ℕ) (found : List Finding) : Type 0 where
  pub says : FileReading
  pub skipped : List SkippedBlock
  pub recovery : IsFullRecovery text says skipped
  pub of_text : List Finding
  pub are : AreFindingsOf text [] says skipped of_text
  pub sorted : AreSortedByPlace (of_text ++ unused_definition_findings says skipped) found
