use Rattle.std.proofs.Common.{◌≢◌, IfSome, ap, subst}
use Rattle.bib_syntax.specs.Errors.{out_of_memory}
use Rattle.bib_syntax.specs.Stretches.{IsMemoOf}
use Rattle.bib_syntax.proofs.RecoveryFacts.{on_ok}
use Rattle.bib_syntax.proofs.raw.recovery.remember.Goals as goal

pub returns-in-Some : goal.returns-in-Some
returns-in-Some c =
    let some : c.args.error.now ≢ out_of_memory = (λ memory. c.in_ok-unless_out_of_memory.ensures.ok (ap (λ e. e.kind) memory)) in
    on_ok c.remember.result c.remember.ensures (λ adds text fails were.
    let memo : IsMemoOf text c.in-Some.memo = subst (λ m. IfSome m (IsMemoOf text)) c.in-Some.is were in
    record {
      closings = memo.closings;
      lines = memo.lines;
      tail = memo.tail;
      failures = adds text (fails some) memo.failures;
    })
