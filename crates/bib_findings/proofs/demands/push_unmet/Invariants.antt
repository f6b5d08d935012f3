use Rattle.std.proofs.Common.{◌≡◌, ◌++◌, take}
use Rattle.bib_tables.specs.Requirements.{texts}
use Rattle.bib_syntax.specs.Views.{entry_reading_of}
use Rattle.bib_findings.specs.DemandRows.{demand_texts}
use Rattle.bib_findings.specs.Demands.{unmet_fields}
use Rattle.bib_findings.proofs.demands.push_unmet.Given as goal

-- the fields for the unmet ones of the first requirements were appended
abbrev pub invariant-demands : goal.invariant-demands
invariant-demands l =
    texts l.missing.items
    ≡ texts l.initial.missing.items ++ unmet_fields (entry_reading_of l.said) l.entry (demand_texts (take l.demand-index l.demands))
