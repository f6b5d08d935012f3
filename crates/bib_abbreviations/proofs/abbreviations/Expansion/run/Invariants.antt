use Rattle.std.proofs.Common.{◌+◌, suc, length}
use Rattle.std.proofs.Common.{reverse}
use Rattle.bib_abbreviations.specs.Expanding.{known_to}
use Rattle.bib_abbreviations.proofs.MemoFacts.{IsExpanding}
use Rattle.bib_abbreviations.proofs.PieceFacts.{weight, unmet, met_in, entries_of}
use Rattle.bib_abbreviations.proofs.abbreviations.Expansion.run.Given as goal

abbrev pub invariant-frames : goal.invariant-frames
invariant-frames l =
    IsExpanding (known_to l.self) l.self.is_verbatim l.fn.memo.values.items l.first.name.now l.memo l.frame
    (reverse l.frames.items)

abbrev pub decreases-frames : goal.decreases-frames
decreases-frames l = suc (length l.frame.rest.now) + weight (reverse l.frames.items) + unmet (met_in l.memo) (entries_of l.self.definitions)
