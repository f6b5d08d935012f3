use Rattle.std.proofs.Common.{map, take}
use Rattle.std.specs.List.{AllZip}
use Rattle.bib_select.specs.Compiled.{IsTermOf}
use Rattle.bib_select.specs.Views.{term_reading_of}
use Rattle.bib_select.proofs.compiling.terms.Given as goal

abbrev pub invariant-terms : goal.invariant-terms
invariant-terms l = AllZip IsTermOf (map term_reading_of (take l.term-index l.raw)) l.terms
