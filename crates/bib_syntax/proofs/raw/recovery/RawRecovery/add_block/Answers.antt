use Rattle.std.proofs.Common.{◌-◌, ◌<◌, IfSome, length, ◌∙◌, ap, sym, subst}
use Rattle.bib_syntax.specs.Recovering.{RecoveredTo}
use Rattle.bib_syntax.specs.Recovery.{IsUnreadBlock}
use Rattle.bib_syntax.specs.Stretches.{IsMemoOf}
use Rattle.bib_syntax.specs.Views.{file_of}
use Rattle.bib_syntax.proofs.FileFacts.{ahead_block, block_smaller}
use Rattle.bib_syntax.proofs.KeptFacts.{ahead_passed}
use Rattle.bib_syntax.proofs.RecoveryFacts.{on_ok, all_ok, unread_from, block_found, unread_found, unread_smaller}
use Rattle.bib_syntax.proofs.raw.recovery.RawRecovery.add_block.Goals as goal

pub returns-in-Ok-clause-found : goal.returns-in-Ok-clause-found
returns-in-Ok-clause-found c = on_ok c.add.result c.add.ensures (λ same. block_found _ _ _ c.in-Ok.ensures.found same)

pub returns-in-Ok-clause-same : goal.returns-in-Ok-clause-same
returns-in-Ok-clause-same c = on_ok c.add.result c.add.ensures (λ same. (ahead_block c.in-Ok.ensures.found).text)

pub returns-in-Ok-clause-smaller : goal.returns-in-Ok-clause-smaller
returns-in-Ok-clause-smaller c = on_ok c.add.result c.add.ensures (λ same. block_smaller c.in-Ok.ensures.found)

pub returns-in_ok-remember_failures-in-Err-clause-found : goal.returns-in_ok-remember_failures-in-Err-clause-found
returns-in_ok-remember_failures-in-Err-clause-found c =
    let here = c.in-Err.ensures.stays in
    let unread : IsUnreadBlock c.read_block.new.s c.in-Err.error =
    subst (λ u. IsUnreadBlock u c.in-Err.error) (sym here)
    (unread_from c.in-Err.ensures.fails c.in_ok-unless_out_of_memory-in-Err.ensures.ok) in
    all_ok c.skip.result c.skip.ensures.passed c.skip.ensures.kept c.skip.ensures.skipped (λ on kept more start before.
    unread_found _ _ _ _ unread on kept more start
    (subst (λ u. RecoveredTo c.args.keeps_parts start (file_of c.args.self.now.raw) c.args.self.now.skipped.items u) (sym here) before))

pub returns-in_ok-remember_failures-in-Err-clause-same : goal.returns-in_ok-remember_failures-in-Err-clause-same
returns-in_ok-remember_failures-in-Err-clause-same c =
    on_ok c.skip.result c.skip.ensures.passed
    (λ on. (ahead_passed on.2.passed).text ∙ (on.1.same ∙ ap (λ u. u.text) c.in-Err.ensures.stays))

pub returns-in_ok-remember_failures-in-Err-clause-smaller : goal.returns-in_ok-remember_failures-in-Err-clause-smaller
returns-in_ok-remember_failures-in-Err-clause-smaller c =
    on_ok c.skip.result c.skip.ensures.passed
    (λ on.
    subst (λ u. length c.skip.new.s.text - c.skip.new.s.at < length u.text - u.at) c.in-Err.ensures.stays
    (unread_smaller on.1 on.2))

pub returns-in_ok-remember_failures-in-Err-clause-memo : goal.returns-in_ok-remember_failures-in-Err-clause-memo
returns-in_ok-remember_failures-in-Err-clause-memo c =
    on_ok c.skip.result c.skip.ensures.passed
    (λ on.
    subst (λ u. IfSome c.remember_failures.new.memo (IsMemoOf u.text)) c.in-Err.ensures.stays
    c.in_ok-remember_failures-in-Err.ensures)
