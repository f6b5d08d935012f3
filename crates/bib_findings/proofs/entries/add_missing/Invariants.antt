use Rattle.std.proofs.Common.{◌≡◌, ◌++◌, map, take}
use Rattle.bib_tables.specs.Requirements.{texts}
use Rattle.bib_syntax.specs.Views.{entry_reading_of}
use Rattle.bib_findings.specs.Reported.{lacking_finding}
use Rattle.bib_findings.proofs.entries.add_missing.Given as goal

abbrev pub invariant-names : goal.invariant-names
invariant-names l =
    l.found.items ≡ l.initial.found.items ++ map (lacking_finding (entry_reading_of l.said)) (texts (take l.name-index l.names))
