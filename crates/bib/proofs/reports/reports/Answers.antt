use Rattle.std.proofs.Common.{[], subst, sym}
use Rattle.std.specs.String.{string_bytes}
use Rattle.std.proofs.lemmas.Iterator.{YieldsList-from_slice}
use Rattle.std.proofs.lemmas.Iterator.Consumers.{YieldsList-end}
use Rattle.bib.specs.Output.{AreReported}
use Rattle.bib.proofs.ReportFacts.{none_reported, report_next}
use Rattle.bib.proofs.reports.reports.Goals as goal

pub entries-init : goal.entries-init
entries-init c = subst (AreReported []) (sym c.new-text.ensures.bytes) none_reported

pub entries-preserved : goal.entries-preserved
entries-preserved c = report_next c.entries.yielded c.in-Some.entry _ _ c.entries.invariant c.in_ok-push_report.ensures

pub returns : goal.returns
returns c =
    let all =
    YieldsList-end
    (YieldsList-from_slice c.args.bibliography.now.entries c.into_iter-entry-iterator.ensures.into_iter_gives)
    c.entries.yielded _ c.entries.yielded_by _ _ c.in-None.is c.next.ensures.steps in
    subst (λ entries. AreReported entries (string_bytes c.entries.text)) all.0 c.entries.invariant
