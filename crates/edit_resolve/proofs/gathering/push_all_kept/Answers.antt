use Rattle.std.proofs.Common.{map, subst}
use Rattle.std.specs.List.{filter}
use Rattle.std.proofs.lemmas.List.Elements.{filter-append}
use Rattle.edit_resolve.specs.Inheritance.{keeps_name, read_name}
use Rattle.std.proofs.lemmas.List.{take_all}
use Rattle.edit_resolve.specs.Working.{Offered, named_of}
use Rattle.edit_resolve.proofs.GatheringFacts.{offered_more, offered_none}
use Rattle.edit_resolve.proofs.gathering.push_all_kept.Goals as goal

pub fields-init : goal.fields-init
fields-init c = offered_none c.args.gathered.now

pub fields-preserved : goal.fields-preserved
fields-preserved c =
    offered_more (filter (λ n. keeps_name c.args.parent.now c.args.child.now (read_name n.name)))
    (filter-append (λ n. keeps_name c.args.parent.now c.args.child.now (read_name n.name))) c.args.fields.now
    c.fields.named-index c.named-item.result c.args.gathered.now c.fields.gathered c.push_kept.new.gathered c.fields-test.true
    c.named-item.is c.fields.invariant
    (c.in_ok-push_kept.ensures)

pub returns : goal.returns
returns c =
    subst (λ l. Offered c.args.gathered.now
    (filter (λ n. keeps_name c.args.parent.now c.args.child.now (read_name n.name)) (map named_of l)) c.fields.gathered)
    (take_all c.fields.named-index c.args.fields.now c.fields-test.false) c.fields.invariant
