use Rattle.std.proofs.Common.{◌∙◌, ℕ, List, true, [], cond, get_or, ap₂, sym, arith}
use Rattle.std.specs.Borrow.{Bor}
use Rattle.bib_queries.specs.Needed.{is_listed}
use Rattle.bib_queries.proofs.MarkFacts.{any_at, any_more}
use Rattle.bib_queries.proofs.known.has_one.Goals as goal

pub returns-then-contains : goal.returns-then-contains
returns-then-contains c = λ keys same.
    let nobody : Bor (List ℕ) = record { ref_ptr = (0, 0); now = [] } in
    let name : List ℕ = (get_or c.args.names.now c.names.name-index nobody).now in
    sym
    (any_at (λ n. n.now) (is_listed keys) c.args.names.now c.names.name-index nobody (omega arith)
    (sym (same name) ∙ sym c.contains.ensures ∙ c.if-contains.true))

pub names-preserved : goal.names-preserved
names-preserved c = λ keys same.
    let nobody : Bor (List ℕ) = record { ref_ptr = (0, 0); now = [] } in
    let name : List ℕ = (get_or c.args.names.now c.names.name-index nobody).now in
    any_more (λ n. n.now) (is_listed keys) c.args.names.now c.names.name-index nobody (omega arith)
    ∙ ap₂ (λ b r. cond b true r) (sym (same name) ∙ sym c.contains.ensures ∙ c.if-contains.false) (c.names.invariant keys same)
