use Rattle.std.proofs.Common.{◌≡◌, ◌++◌, take}
use Rattle.std.specs.List.{flat_map}
use Rattle.bib_from_csl.specs.FromItems.{given_lines}
use Rattle.bib_from_csl.proofs.writing.push_fields.Given as goal

abbrev pub invariant-fields : goal.invariant-fields
invariant-fields l = l.out ≡ l.initial.out ++ flat_map (given_lines l.work) (take l.given-index l.given-items)
