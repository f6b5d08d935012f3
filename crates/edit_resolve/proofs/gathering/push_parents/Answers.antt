use Rattle.edit_resolve.specs.Working.{fields_at}
use Rattle.edit_resolve.specs.declared.parents.Link.TheVariants.{Crossref}
use Rattle.edit_resolve.specs.declared.parents.Parent.{Parent}
use Rattle.edit_resolve.proofs.GatheringFacts.{parents_more}
use Rattle.edit_resolve.proofs.gathering.push_parents.Goals as goal

pub parents-preserved : goal.parents-preserved
parents-preserved c =
    let nobody : Parent = record { link = Crossref; index = 0 } in
    parents_more c.args.types.now c.args.child.now (fields_at c.args.found.now) c.args.parents.now c.parents.parent-index
    nobody c.args.gathered.now c.parents.gathered c.push_parent.new.gathered c.parents-test.true
    c.parents.invariant c.in_ok-push_parent.ensures
