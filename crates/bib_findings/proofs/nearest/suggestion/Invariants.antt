use Rattle.std.proofs.Common.{◌≡◌, drop}
use Rattle.std.specs.Prelude.{find}
use Rattle.bib_tables.specs.Requirements.{texts}
use Rattle.bib_findings.specs.Nearest.{is_plausible}
use Rattle.bib_findings.proofs.nearest.suggestion.Given as goal

-- the first plausible name is the first one from the next name on
abbrev pub invariant-names : goal.invariant-names
invariant-names l = find (is_plausible l.name) (texts (drop l.known-index l.names)) ≡ find (is_plausible l.name) (texts l.names)
