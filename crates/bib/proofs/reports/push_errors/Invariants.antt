use Rattle.std.proofs.Common.{◌≡◌, ◌++◌, take}
use Rattle.std.specs.List.{flat_map}
use Rattle.std.specs.String.{string_bytes}
use Rattle.bib.specs.Output.{malformed_line}
use Rattle.bib.proofs.reports.push_errors.Given as goal

abbrev pub invariant-errors : goal.invariant-errors
invariant-errors l = string_bytes l.text ≡ string_bytes l.initial.text ++ flat_map (malformed_line l.key) (take l.name-index l.errors)
