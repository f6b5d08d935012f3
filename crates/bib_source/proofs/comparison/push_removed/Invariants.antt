use Rattle.std.proofs.Common.{◌≡◌, ◌++◌, map, take}
use Rattle.bib_source.specs.declared.comparison.Line.TheVariants.{Removed}
use Rattle.bib_source.proofs.comparison.push_removed.Given as goal

abbrev pub invariant-lines : goal.invariant-lines
invariant-lines l = l.compared.items ≡ l.initial.compared.items ++ map Removed (take l.line-index l.lines)
