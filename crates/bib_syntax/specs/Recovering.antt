-- Machinery: words of private contracts.
-- The recovery of a file up to a place.
use Rattle.std.specs.Prelude.{Bool, List, ◌++◌}
use Rattle.bib_text.specs.Places.{Place}
use Rattle.bib_syntax.specs.Reading.{FileReading, then}
use Rattle.bib_syntax.specs.Recovery.{Recovered}
use Rattle.bib_syntax.specs.declared.raw.recovery.SkippedBlock.{SkippedBlock}

-- from `start` to `here`, recovery has the reading `says` and the skipped blocks `errors`, whatever follows `here`
abbrev pub RecoveredTo : Bool → Place → FileReading → List SkippedBlock → Place → Type 0
RecoveredTo keeps_parts start says errors here =
    (more : FileReading) (others : List SkippedBlock) → Recovered keeps_parts here more others
    → Recovered keeps_parts start (then says more) (errors ++ others)
