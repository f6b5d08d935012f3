-- Meaning: words of public contracts.
-- Cut entries: those of skipped blocks. Only the complete parts of such an entry are kept, so its other fields may be lost.
use Rattle.std.specs.Prelude.{ℕ, Bool, not, ◌==◌, List, Option}
use Rattle.std.specs.List.{filter, find, list_any}
use Rattle.bib_syntax.specs.Reading.{EntryReading}
use Rattle.bib_syntax.specs.declared.raw.recovery.SkippedBlock.{SkippedBlock}

-- whether a skipped block begins at this offset
abbrev pub begins_block : List SkippedBlock → ℕ → Bool
begins_block skipped start = list_any (λ block. start == block.span.start) skipped

-- whether an entry is cut: a skipped block begins at its start
abbrev pub is_cut : List SkippedBlock → EntryReading → Bool
is_cut skipped said = begins_block skipped said.start

-- the entries that aren't cut
abbrev pub whole_among : List SkippedBlock → List EntryReading → List EntryReading
whole_among skipped entries = filter (λ said. not (is_cut skipped said)) entries

-- the first entry that begins at this offset, if there is one
abbrev pub entry_from : List EntryReading → ℕ → Option EntryReading
entry_from said start = find (λ e. start == e.start) said
