use Rattle.std.proofs.Common.{◌≡◌, drop, find}
use Rattle.bib_tables.specs.Requirements.{texts}
use Rattle.bib_syntax.specs.Views.{entry_reading_of}
use Rattle.bib_findings.specs.Entries.{has_own_field}
use Rattle.bib_findings.proofs.demands.demanded_field.Given as goal

-- a search from this name on finds the same field in the file as a search of all names
abbrev pub invariant-names : goal.invariant-names
invariant-names l =
    find (has_own_field (entry_reading_of l.said)) (texts (drop l.name-index l.demand))
    ≡ find (has_own_field (entry_reading_of l.said)) (texts l.demand)
