-- Meaning: words of public contracts.
-- The entries of a file that meet conditions, and the findings that are about these entries.
use Rattle.std.specs.Prelude.{◌≡◌, ◌==◌, ℕ, ◌-◌, Bool, false, ◌&&◌, ◌||◌, if◌then◌else◌, List, [], ◌∷◌, Option, Some, None, codes, eqb, filter, length, map, nat_le, nat_lt, take}
use Rattle.std.specs.declared.ops.Range.{Range}
use Rattle.std.specs.List.{ends_with, list_all, list_any}
use Rattle.std.specs.Option.{option_and_then, option_map_or}
use Rattle.bib_syntax.specs.Reading.{EntryReading, FileReading}
use Rattle.bib_syntax.specs.Recovery.{IsFullRecovery}
use Rattle.bib_syntax.specs.declared.raw.ParseError.{ParseError}
use Rattle.bib_syntax.specs.declared.raw.recovery.SkippedBlock.{SkippedBlock}
use Rattle.bib_collections.specs.Sorted.{ByText}
use Rattle.bib_entry.specs.declared.entry.Entry.{Entry}
use Rattle.bib_file_entries.specs.Claiming.{IsKeptSoFar}
use Rattle.bib_file_entries.specs.Loaded.{definition_in}
use Rattle.bib_inheritance.specs.Recovered.{AreRecovered}
use Rattle.bib_queries.specs.Answers.{has_key}
use Rattle.bib_queries.specs.Elements.{text_after_part}
use Rattle.bib_queries.specs.Known.{all_names}
use Rattle.bib_queries.specs.Needed.{is_listed}
use Rattle.bib_findings.specs.declared.codes.Code.{Code}
use Rattle.bib_findings.specs.declared.codes.Code.TheVariants.{DuplicateKey, KeyCase, LikelyDuplicate, StrayField, Syntax}
use Rattle.bib_findings.specs.declared.finding.Finding.{Finding}
use Rattle.bib_select.specs.Selected.{meets}
use Rattle.bib_select.specs.declared.selection.Selection.{Selection}

-- whether an entry meets all of these conditions
abbrev pub meets_all : List Selection → Entry → Bool
meets_all conditions entry = list_all (meets entry) conditions

-- the keys of the entries that meet all conditions
abbrev pub selected_keys : List Selection → List Entry → List (List ℕ)
selected_keys conditions entries = map (λ e. e.key) (filter (meets_all conditions) entries)

-- `entries` are the entries of a bibliography with this content. Each has the fields that it inherits. An entry is left out if its key
-- was claimed before: an earlier entry that isn't left out has the key, or names it in `ids`.
pub record AreResolvedEntries (says : FileReading) (entries : List Entry) : Type 0 where
  pub own : List Entry
  pub names : ByText ℕ
  pub places : List (Range ℕ)
  pub origins : List ℕ
  pub errors : List ParseError
  pub kept : IsKeptSoFar (definition_in says.abbreviations) says.entries own names places origins errors
  pub unresolved : List ParseError
  pub inherited : AreRecovered places names own entries unresolved

-- `keys` are the keys of the entries with this content that meet all conditions. The conditions aren't tested on an entry that is left out:
-- among several entries with one key, they are tested at most on the first.
pub record AreSelectedKeys (conditions : List Selection) (says : FileReading) (keys : List (List ℕ)) : Type 0 where
  pub entries : List Entry
  pub of_content : AreResolvedEntries says entries
  pub are : keys ≡ selected_keys conditions entries

-- the entries of a file that have one of these keys
abbrev pub entries_with : List (List ℕ) → List EntryReading → List EntryReading
entries_with keys entries = filter (has_key keys) entries

-- whether an offset is in an entry: from its at sign to before its end. The end is its closing brace or, for an entry with a syntax error,
-- the end of its complete parts.
abbrev pub is_in : ℕ → EntryReading → Bool
is_in at e = nat_le e.start at && nat_lt at e.end

-- whether an entry begins at this offset
abbrev pub begins_one : List EntryReading → ℕ → Bool
begins_one entries start = list_any (λ e. start == e.start) entries

-- whether an offset is in a skipped block whose complete parts are one of these entries
abbrev pub is_in_block : List EntryReading → ℕ → SkippedBlock → Bool
is_in_block entries at block = begins_one entries block.span.start && (nat_le block.span.start at && nat_lt at block.span.end)

-- whether an offset is in one of these entries: from its start to before its end, or in its skipped block
abbrev pub is_in_one : List SkippedBlock → List EntryReading → ℕ → Bool
is_in_one skipped entries at = list_any (is_in at) entries || list_any (is_in_block entries at) skipped

-- the place of a finding with this code that begins at an offset. For a syntax error, it is the byte before the offset, because the error
-- of a block without an end is at the start of the next block. For `StrayField`, it is that byte too, because the finding begins at the
-- end of its entry. At offset 0, it is 0.
abbrev pub finding_place : Code → ℕ → ℕ
finding_place Syntax start = start - 1
finding_place StrayField start = start - 1
finding_place _ start = start

-- a text without these words at its end, or `None` if it doesn't end with them
abbrev pub before_end : List ℕ → List ℕ → Option (List ℕ)
before_end words text = if ends_with eqb text words then Some (take (length text - length words) text) else None

-- the name in a message between the first occurrence of the words `before` and the words `after` at the end
abbrev pub name_between : List ℕ → List ℕ → List ℕ → Option (List ℕ)
name_between before after message = option_and_then (before_end after) (text_after_part before message)

-- the name of the earlier entry in the message of a finding, or `None`. It is a key that an earlier entry claims too, the key of the
-- earlier of two likely duplicates, or the earlier of two keys that differ only in ASCII case. No key contains a space.
abbrev pub name_of_earlier : Code → List ℕ → Option (List ℕ)
name_of_earlier DuplicateKey message = name_between (codes " \"") (codes "\"") message
name_of_earlier LikelyDuplicate message = name_between (codes " \"") (codes "\"") message
name_of_earlier KeyCase message = name_between (codes " key differs from `") (codes "` only in case") message
name_of_earlier _ message = None

-- whether a finding is about one of these entries: its place is in one of them, or `name_of_earlier` is a name of one of them. Some of the
-- entries may be the complete parts of these skipped blocks.
abbrev pub is_about : List SkippedBlock → List EntryReading → Finding → Bool
is_about skipped entries f =
    is_in_one skipped entries (finding_place f.code f.span.start)
    || option_map_or (is_listed (all_names entries)) (name_of_earlier f.code f.message) false

-- `kept` are the findings that are about an entry with this content whose key is that of an entry that meets all conditions. An entry with
-- a syntax error counts with its complete parts.
pub record AreAboutSelected (conditions : List Selection) (says : FileReading) (skipped : List SkippedBlock) (found kept : List Finding)
    : Type 0 where
  pub keys : List (List ℕ)
  pub selected : AreSelectedKeys conditions says keys
  pub are : kept ≡ filter (is_about skipped (entries_with keys says.entries)) found

-- `kept` are the findings of a recovered text that are reported if the rules select them: all without conditions, otherwise those about the
-- selected entries
abbrev pub AreReportedAmong : List Selection → FileReading → List SkippedBlock → List Finding → List Finding → Type 0
AreReportedAmong [] says skipped found kept = kept ≡ found
AreReportedAmong (condition ∷ rest) says skipped found kept = AreAboutSelected (condition ∷ rest) says skipped found kept

-- `kept` are the findings that are about an entry of the text whose key is that of an entry that meets all conditions
pub record AreAboutText (conditions : List Selection) (text : List ℕ) (found kept : List Finding) : Type 0 where
  pub says : FileReading
  pub skipped : List SkippedBlock
  pub recovery : IsFullRecovery text says skipped
  pub are : AreAboutSelected conditions says skipped found kept

-- `kept` are the findings of a text that are reported if the rules select them: all without conditions, otherwise those about the selected
-- entries
abbrev pub AreReportedFindings : List Selection → List ℕ → List Finding → List Finding → Type 0
AreReportedFindings [] text found kept = kept ≡ found
AreReportedFindings (condition ∷ rest) text found kept = AreAboutText (condition ∷ rest) text found kept

-- the findings to report among findings that are about no entry of a file: all of them without conditions, otherwise none
abbrev pub findings_of_no_entry : List Selection → List Finding → List Finding
findings_of_no_entry [] found = found
findings_of_no_entry (condition ∷ rest) found = []
