use Rattle.std.proofs.Common.{◌∙◌, ℕ, List, [], ap, sym, arith}
use Rattle.std.specs.Borrow.{Bor}
use Rattle.std.specs.BTreeSet.{contains_text}
use Rattle.bib_queries.proofs.MarkFacts.{any_at}
use Rattle.edit_entries.specs.NameSets.{holds_name}
use Rattle.edit_entries.proofs.joining.has_one.Goals as goal

pub returns-then-contains : goal.returns-then-contains
returns-then-contains c =
    let nobody : Bor (List ℕ) = record { ref_ptr = (0, 0); now = [] } in
    sym
    (any_at (λ n. n.now) (holds_name (contains_text c.args.set.now)) c.args.names.now c.names.name-index nobody
    (omega arith)
    (ap (contains_text c.args.set.now) (sym (c.as_str.ensures.value ∙ c.in_ok-name.ensures.ok)) ∙ sym c.contains.ensures
    ∙ c.if-contains.true))
