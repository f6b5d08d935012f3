use Rattle.std.proofs.Common.{◌≡◌, ◌++◌, take}
use Rattle.std.specs.List.{flat_map}
use Rattle.bib_from_ris.specs.RisItems.{outside_loss}
use Rattle.bib_from_ris.proofs.outside.push_lines.Given as goal

abbrev pub invariant-lines : goal.invariant-lines
invariant-lines l = l.losses ≡ l.initial.losses ++ flat_map outside_loss (take l.line-index l.lines)
