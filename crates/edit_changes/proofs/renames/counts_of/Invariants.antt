use Rattle.std.proofs.Common.{take}
use Rattle.edit_changes.specs.Counts.{AreCounts}
use Rattle.edit_changes.proofs.renames.counts_of.Given as goal

-- the counts are those of the texts so far
abbrev pub invariant-texts : goal.invariant-texts
invariant-texts l = AreCounts (take l.text-index l.texts) l.counts
