use Rattle.std.proofs.Common.{ℕ, List, [], ◌∙◌, arith}
use Rattle.std.specs.Borrow.{Bor}
use Rattle.edit_resolve.specs.Parents.{parent, parent_index}
use Rattle.edit_resolve.specs.Working.{readings}
use Rattle.edit_resolve.proofs.ListFacts.{mapped_more}
use Rattle.edit_resolve.proofs.parents.push_found.Goals as goal

pub keys-preserved : goal.keys-preserved
keys-preserved c =
    let nobody : Bor (List ℕ) = record { ref_ptr = (0, 0); now = [] } in
    c.in_ok-push_parent.ensures
    ∙ mapped_more (λ k. k.now) (parent_index (readings c.args.file.now) c.args.link) (parent c.args.link) c.args.keys.now
    c.keys.key-index nobody (omega arith) c.keys.parents.items c.args.parents.now.items c.keys.invariant
