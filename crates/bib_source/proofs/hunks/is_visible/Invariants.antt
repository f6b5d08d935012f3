use Rattle.std.proofs.Common.{◌≡◌, ◌-◌, false, drop, take}
use Rattle.std.specs.List.{list_any}
use Rattle.bib_source.specs.Comparison.{is_changed}
use Rattle.bib_source.proofs.hunks.is_visible.Given as goal

abbrev pub invariant-lines : goal.invariant-lines
invariant-lines l = list_any is_changed (take l.line-index (take (l.end - l.start) (drop l.start l.lines))) ≡ false
