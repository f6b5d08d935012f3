use Rattle.std.proofs.Common.{ap, ◌∙◌}
use Rattle.biblatex.specs.Syntax.{texts}
use Rattle.bib.proofs.ReportFacts.{report_added}
use Rattle.bib.proofs.reports.push_report.Goals as goal

pub returns : goal.returns
returns c =
    let report = c.in_ok-report.ensures in
    report_added c.args.entry.now c.as_str-key.result.now (texts c.deref.result.now) (texts c.deref-2.result.now)
    c.deref-3.result.now c.in_ok-report.report.malformed.items _ _ _ _ c.push_errors.result
    c.as_str-key.ensures (ap texts c.deref.ensures.value ∙ report.missing)
    (ap texts c.deref-2.ensures.value ∙ report.superfluous) c.deref-3.ensures.value report.malformed
    c.in_ok-push_names.ensures c.in_ok-push_names-2.ensures c.push_errors.ensures
