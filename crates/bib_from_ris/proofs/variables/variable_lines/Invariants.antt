use Rattle.std.proofs.Common.{◌≡◌, take}
use Rattle.std.specs.List.{flat_map}
use Rattle.bib_from_ris.specs.Variables.{line_and_variable}
use Rattle.bib_from_ris.proofs.variables.variable_lines.Given as goal

abbrev pub invariant-lines : goal.invariant-lines
invariant-lines l = l.found ≡ flat_map (line_and_variable l.kind l.has_editors) (take l.line-index l.lines)
