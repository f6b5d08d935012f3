use Rattle.bib_tables.specs.Requirements.{texts}
use Rattle.bib_syntax.specs.Views.{entry_reading_of}
use Rattle.bib_findings.proofs.AddingFacts.{report_added}
use Rattle.bib_findings.proofs.entries.add_report.Goals as goal

pub returns : goal.returns
returns c =
    report_added (entry_reading_of c.args.said.now) c.args.entry.now (texts c.args.missing.now) c.deref-2.result.now
    c.in_ok-report.report.malformed.items c.args.found.now.items c.add_missing.new.found.items c.add_superfluous.new.found.items
    c.add_malformed.new.found.items c.add_malformed.result
    c.deref-2.ensures.value c.in_ok-report.ensures.malformed
    c.in_ok-add_missing.ensures c.in_ok-add_superfluous.ensures c.add_malformed.ensures
