use Rattle.bib.proofs.ReportFacts.{error_next}
use Rattle.bib.proofs.reports.push_errors.Goals as goal

pub errors-preserved : goal.errors-preserved
errors-preserved c =
    error_next c.args.key.now c.args.errors.now c.errors.name-index c.errors-item.result c.as_str.result.now _ _ _
    c.errors-test.true c.errors-item.is c.as_str.ensures c.errors.invariant c.in_ok-push_error.ensures
