use Rattle.std.proofs.Common.{take}
use Rattle.std.specs.List.{AllByRecursion}
use Rattle.bib_from_json.specs.SameEntries.{IsSameField}
use Rattle.bib_from_json.proofs.comparing.first_fault.Given as goal

abbrev pub invariant-fields : goal.invariant-fields
invariant-fields l = AllByRecursion (IsSameField l.fields) (take l.field-index l.given)
