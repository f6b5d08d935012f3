use Rattle.std.proofs.Common.{subst}
use Rattle.bib_syntax.proofs.RecoveryFacts.{on_ok}
use Rattle.bib_syntax.specs.Failures.{AllFail}
use Rattle.bib_syntax.proofs.raw.recovery.remember_failures.Goals as goal

pub returns-in-Err : goal.returns-in-Err
returns-in-Err c =
    on_ok c.remember.result c.remember.ensures (λ adds. adds c.args.s.now.text (λ some.
    rw c.deref.ensures.value
    (subst (λ u. AllFail u.text c.in-Err.error c.failing_fields.new.starts.items) c.with_memo-reader.ensures
    (c.in-Err.ensures some)))
    c.requires.memo)
