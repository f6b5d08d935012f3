use Rattle.std.specs.BTreeSet.{contains_text}
use Rattle.bib_syntax.specs.Views.{entry_reading_of, field_of}
use Rattle.edit_resolve.specs.Parents.{entry_at}
use Rattle.edit_resolve.specs.Uninherited.{lacking_names, uninherited_of}
use Rattle.edit_resolve.specs.Views.{uninherited_list}
use Rattle.edit_resolve.specs.Working.{fields_at, readings}
use Rattle.edit_resolve.specs.declared.parents.Link.TheVariants.{Crossref}
use Rattle.edit_resolve.specs.declared.parents.Parent.{Parent}
use Rattle.edit_resolve.proofs.UninheritedFacts.{parents_more}
use Rattle.edit_resolve.proofs.uninherited.push_of_parents.Goals as goal

pub parents-preserved : goal.parents-preserved
parents-preserved c =
    let nobody : Parent = record { link = Crossref; index = 0 } in
    let es = readings c.args.file.now in
    let e = entry_reading_of c.args.child.now.entry.now in
    parents_more
    (λ p.
    uninherited_of e (field_of c.args.reference.now) (entry_at es p.index)
    (lacking_names es (fields_at c.args.fields.now) (contains_text c.args.child.now.names) e p)) c.args.parents.now c.parents.parent-index
    nobody c.parents-test.true (uninherited_list c.parents.found.items) _ (uninherited_list c.args.found.now.items) c.parents.invariant
    c.in_ok-push_of_parent.ensures
