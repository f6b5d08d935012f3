use Rattle.std.proofs.Common.{◌≡◌, ◌++◌, map, take}
use Rattle.bib_syntax.specs.Views.{field_of}
use Rattle.bib_findings.specs.Errors.{error_finding}
use Rattle.bib_findings.proofs.errors.add_errors.Given as goal

abbrev pub invariant-errors : goal.invariant-errors
invariant-errors l =
    l.found.items ≡ l.initial.found.items ++ map (error_finding (map field_of l.definitions)) (take l.error-index l.errors)
