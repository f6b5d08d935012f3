use Rattle.std.proofs.Common.{◌≡◌, take, true}
use Rattle.std.specs.List.{list_all}
use Rattle.bib_select.specs.Selected.{meets_term}
use Rattle.bib_select.proofs.selection.meets_all.Given as goal

abbrev pub invariant-terms : goal.invariant-terms
invariant-terms l = list_all (meets_term l.entry) (take l.term-index l.terms) ≡ true
