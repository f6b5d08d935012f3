use Rattle.std.proofs.Common.{◌≡◌, take, true}
use Rattle.std.specs.List.{list_all}
use Rattle.bib_select.specs.Selected.{meets}
use Rattle.bibkit_core.proofs.conditions.meets_all.Given as goal

abbrev pub invariant-conditions : goal.invariant-conditions
invariant-conditions l = list_all (meets l.entry) (take l.condition-index l.conditions) ≡ true
