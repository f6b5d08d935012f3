use Rattle.std.proofs.Common.{take}
use Rattle.bibkit_core.specs.Totals.{AddsFindings}
use Rattle.bibkit_core.proofs.counting.Counting.add_found.Given as goal

abbrev pub invariant-findings : goal.invariant-findings
invariant-findings l = AddsFindings (take l.finding-index l.found) l.initial.self l.self
