use Rattle.std.proofs.Common.{map, subst, sym}
use Rattle.std.specs.Prelude.{OnOk}
use Rattle.edit_resolve.specs.Resolved.{offers}
use Rattle.edit_resolve.specs.Working.{Offered, named_of}
use Rattle.edit_resolve.proofs.GatheringFacts.{offered_then, on_ok}
use Rattle.edit_resolve.proofs.gathering.push_offers.Goals as goal

pub returns-in-Xdata : goal.returns-in-Xdata
returns-in-Xdata c =
    subst
    (λ link.
    OnOk c.push_all_passed.result
    (Offered c.args.gathered.now (offers link c.args.parent.now c.args.child.now (map named_of c.args.fields.now))
    c.push_all_passed.new.gathered))
    (sym c.in-Xdata.is) c.push_all_passed.ensures

pub returns-in_ok-push_all_renamed-in-Crossref : goal.returns-in_ok-push_all_renamed-in-Crossref
returns-in_ok-push_all_renamed-in-Crossref c =
    subst
    (λ link.
    OnOk c.push_all_kept.result
    (Offered c.args.gathered.now (offers link c.args.parent.now c.args.child.now (map named_of c.args.fields.now))
    c.push_all_kept.new.gathered))
    (sym c.in-Crossref.is)
    (on_ok c.push_all_kept.result
    (λ kept.
    offered_then c.args.gathered.now c.push_all_renamed.new.gathered c.push_all_kept.new.gathered _ _
    c.in_ok-push_all_renamed-in-Crossref.ensures kept) c.push_all_kept.ensures)
