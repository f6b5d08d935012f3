use Rattle.std.proofs.Common.{◌∙◌, ◌++◌, ℕ, List, [], get_or, ap, sym, arith}
use Rattle.std.specs.Borrow.{Bor}
use Rattle.bib_queries.specs.Citations.{unlisted_key}
use Rattle.bib_queries.proofs.MarkFacts.{made_at}
use Rattle.bib_queries.proofs.citations.unlisted.Goals as goal

pub keys-preserved : goal.keys-preserved
keys-preserved c = λ names same.
    let nobody : Bor (List ℕ) = record { ref_ptr = (0, 0); now = [] } in
    let keys = c.args.keys.now in
    let i : ℕ = c.keys.key-index in
    c.in_ok-push_unlisted.ensures names same ∙ ap (λ l. l ++ unlisted_key names (get_or keys i nobody).now) (c.keys.invariant names same)
    ∙ sym (made_at (λ k. k.now) (unlisted_key names) keys i nobody (omega arith))
