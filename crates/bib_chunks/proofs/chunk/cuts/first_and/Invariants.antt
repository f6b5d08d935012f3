use Rattle.std.proofs.Common.{◌-◌, length}
use Rattle.bib_chunks.proofs.AndFacts.{IsSearchedTo}
use Rattle.bib_chunks.proofs.chunk.cuts.first_and.Given as goal

-- no word `and` with white space right before and after it begins before `at`
abbrev pub invariant-text : goal.invariant-text
invariant-text l = IsSearchedTo l.text l.at l.space

abbrev pub decreases-text : goal.decreases-text
decreases-text l = length l.text - l.at
