use Rattle.std.proofs.Common.{◌≡◌, drop}
use Rattle.bib_tables.specs.Requirements.{texts}
use Rattle.bib_syntax.specs.Views.{entry_reading_of}
use Rattle.bib_findings.specs.Demands.{is_met}
use Rattle.bib_findings.proofs.demands.is_met.Given as goal

-- the requirement without the fields before this one is met exactly if the whole requirement is
abbrev pub invariant-names : goal.invariant-names
invariant-names l =
    is_met (entry_reading_of l.said) l.entry (texts (drop l.name-index l.demand))
    ≡ is_met (entry_reading_of l.said) l.entry (texts l.demand)
