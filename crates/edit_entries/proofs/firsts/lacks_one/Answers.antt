use Rattle.std.proofs.Common.{◌∙◌, ℕ, Bool, List, [], true, cond, map, take, not, ap, sym, arith}
use Rattle.std.specs.Borrow.{Bor}
use Rattle.std.specs.List.{list_any}
use Rattle.bib_queries.proofs.MarkFacts.{any_at, any_more}
use Rattle.bib_queries.specs.Sets.{is_in_set}
use Rattle.edit_entries.proofs.firsts.lacks_one.Goals as goal

pub returns-then-not-contains : goal.returns-then-not-contains
returns-then-not-contains c =
    let nobody : Bor (List ℕ) = record { ref_ptr = (0, 0); now = [] } in
    sym
    (any_at (λ k. k.now) (λ key. not (is_in_set c.args.set.now key)) c.args.keys.now c.keys.key-index nobody
    (omega arith)
    (ap not (sym c.contains.ensures ∙ c.if-not-contains.true)))

pub keys-preserved : goal.keys-preserved
keys-preserved c =
    let nobody : Bor (List ℕ) = record { ref_ptr = (0, 0); now = [] } in
    let test : List ℕ → Bool = λ (key : List ℕ). not (is_in_set c.args.set.now key) in
    any_more (λ k. k.now) test c.args.keys.now c.keys.key-index nobody (omega arith)
    ∙ ap (λ b. cond b true (list_any test (map (λ k. k.now) (take c.keys.key-index c.args.keys.now))))
    (ap not (sym c.contains.ensures ∙ c.if-not-contains.false))
    ∙ c.keys.invariant
