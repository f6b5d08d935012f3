use Rattle.std.proofs.Common.{◌≡◌, take, false}
use Rattle.std.specs.List.{list_all, list_any}
use Rattle.bib_select.specs.Selected.{meets_term}
use Rattle.bib_select.proofs.selection.Selection.selects.Given as goal

abbrev pub invariant-alternatives : goal.invariant-alternatives
invariant-alternatives l = list_any (list_all (meets_term l.entry)) (take l.terms-index l.self.alternatives) ≡ false
