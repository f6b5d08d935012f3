use Rattle.std.proofs.Common.{map, take}
use Rattle.bib_syntax.specs.Views.{entry_reading_of}
use Rattle.edit_changes.specs.Counts.{AreCounts}
use Rattle.edit_merge.proofs.renames.key_counts.Given as goal

-- the counts are those of the keys so far
abbrev pub invariant-entries : goal.invariant-entries
invariant-entries l = AreCounts (map (λ e. e.key.text) (map entry_reading_of (take l.entry-index l.entries))) l.counts
