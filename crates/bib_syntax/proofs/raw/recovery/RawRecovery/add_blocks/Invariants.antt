use Rattle.std.proofs.Common.{◌≡◌, IfSome, length, ◌-◌}
use Rattle.bib_text.specs.Places.{Place}
use Rattle.bib_syntax.specs.Recovering.{RecoveredTo}
use Rattle.bib_syntax.specs.Stretches.{IsMemoOf}
use Rattle.bib_syntax.specs.Views.{file_of}
use Rattle.bib_syntax.proofs.raw.recovery.RawRecovery.add_blocks.Given as goal

abbrev pub invariant-file : goal.invariant-file
invariant-file l =
    ((start : Place) → RecoveredTo l.keeps_parts start (file_of l.fn.self.raw) l.fn.self.skipped.items l.fn.s
    → RecoveredTo l.keeps_parts start (file_of l.self.raw) l.self.skipped.items l.s)
    × (l.s.text ≡ l.fn.s.text) × IfSome l.memo (IsMemoOf l.fn.s.text)

abbrev pub decreases-file : goal.decreases-file
decreases-file l = length l.s.text - l.s.at
