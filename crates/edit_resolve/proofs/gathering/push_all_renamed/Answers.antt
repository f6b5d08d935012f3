use Rattle.std.proofs.Common.{append-nil, map, subst, sym}
use Rattle.std.specs.List.{flat_map}
use Rattle.std.proofs.lemmas.List.Concat.{flat_map-append}
use Rattle.edit_resolve.specs.Inheritance.{name_by_crossref, read_name}
use Rattle.edit_resolve.specs.Resolved.{renamed}
use Rattle.std.proofs.lemmas.List.{take_all}
use Rattle.edit_resolve.specs.Working.{Offered, named_of}
use Rattle.edit_resolve.proofs.GatheringFacts.{offered_more, offered_none, offered_same}
use Rattle.edit_resolve.proofs.gathering.push_all_renamed.Goals as goal

pub fields-init : goal.fields-init
fields-init c = offered_none c.args.gathered.now

pub fields-preserved : goal.fields-preserved
fields-preserved c =
    offered_more (flat_map (λ n. renamed n (name_by_crossref c.args.parent.now c.args.child.now (read_name n.name))))
    (flat_map-append (λ n. renamed n (name_by_crossref c.args.parent.now c.args.child.now (read_name n.name)))) c.args.fields.now
    c.fields.named-index c.named-item.result c.args.gathered.now c.fields.gathered c.push_renamed.new.gathered c.fields-test.true
    c.named-item.is c.fields.invariant
    (offered_same c.fields.gathered c.push_renamed.new.gathered _ _ (sym (append-nil _)) c.in_ok-push_renamed.ensures)

pub returns : goal.returns
returns c =
    subst (λ l. Offered c.args.gathered.now
    (flat_map (λ n. renamed n (name_by_crossref c.args.parent.now c.args.child.now (read_name n.name))) (map named_of l)) c.fields.gathered)
    (take_all c.fields.named-index c.args.fields.now c.fields-test.false) c.fields.invariant
