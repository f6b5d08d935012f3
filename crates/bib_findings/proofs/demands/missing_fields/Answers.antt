use Rattle.std.proofs.Common.{ap}
use Rattle.bib_tables.specs.Requirements.{texts}
use Rattle.bib_syntax.specs.Views.{entry_reading_of}
use Rattle.bib_findings.specs.DemandRows.{demand_texts}
use Rattle.bib_findings.proofs.DemandFacts.{unmet_in_turn}
use Rattle.bib_findings.proofs.demands.missing_fields.Goals as goal

pub returns : goal.returns
returns c =
    unmet_in_turn (entry_reading_of c.args.said.now) c.args.entry.now (texts c.new-missing.result.items)
    (texts c.push_unmet.new.missing.items) (texts c.push_unmet-2.new.missing.items) (demand_texts c.demands_of.result.now)
    (demand_texts c.date_demand.result.now) (ap texts c.new-missing.ensures.items) c.in_ok-push_unmet.ensures c.in_ok-push_unmet-2.ensures
    c.demands_of.ensures c.date_demand.ensures
