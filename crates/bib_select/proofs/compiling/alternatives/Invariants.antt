use Rattle.std.proofs.Common.{map, take}
use Rattle.std.specs.List.{AllZip}
use Rattle.bib_select.specs.Compiled.{IsTermOf}
use Rattle.bib_select.specs.Views.{terms_reading_of}
use Rattle.bib_select.proofs.compiling.alternatives.Given as goal

abbrev pub invariant-alternatives : goal.invariant-alternatives
invariant-alternatives l = AllZip (AllZip IsTermOf) (map terms_reading_of (take l.raw_terms-index l.raw)) l.alternatives
