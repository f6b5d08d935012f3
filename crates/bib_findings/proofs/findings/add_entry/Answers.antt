use Rattle.bib_tables.specs.Requirements.{texts}
use Rattle.bib_syntax.specs.Views.{entry_reading_of}
use Rattle.bib_findings.proofs.AddingFacts.{entry_added}
use Rattle.bib_findings.proofs.NameFacts.{for_any}
use Rattle.bib_findings.proofs.findings.add_entry.Goals as goal

pub returns-clause-met : goal.returns-clause-met
returns-clause-met c = for_any c.add_single.result _ c.in_ok-add_misspelled_fields.ensures.met

pub returns-clause-added : goal.returns-clause-added
returns-clause-added c =
    entry_added (texts c.args.missing.now) (entry_reading_of c.args.said.now) c.args.entry.now c.args.found.now.items
    c.add_misspelled_type.new.found.items c.add_report.new.found.items c.add_misspelled_fields.new.found.items c.add_single.new.found.items
    c.add_single.result c.in_ok-add_misspelled_type.ensures c.in_ok-add_report.ensures c.in_ok-add_misspelled_fields.ensures.added
    c.add_single.ensures
