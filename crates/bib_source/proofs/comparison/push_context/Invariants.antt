use Rattle.std.proofs.Common.{◌≡◌, ◌++◌, map, take}
use Rattle.bib_source.specs.declared.comparison.Line.TheVariants.{Context}
use Rattle.bib_source.proofs.comparison.push_context.Given as goal

abbrev pub invariant-lines : goal.invariant-lines
invariant-lines l = l.compared.items ≡ l.initial.compared.items ++ map Context (take l.line-index l.lines)
