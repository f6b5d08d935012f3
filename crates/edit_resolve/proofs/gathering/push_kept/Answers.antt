use Rattle.std.proofs.Common.{◌∙◌, ap, sym, subst}
use Rattle.std.specs.Prelude.{OnOk}
use Rattle.edit_resolve.specs.Inheritance.{keeps_name, read_name}
use Rattle.edit_resolve.specs.Working.{Offered, named_of}
use Rattle.edit_resolve.proofs.GatheringFacts.{passed}
use Rattle.edit_resolve.proofs.gathering.push_kept.Goals as goal

pub returns : goal.returns
returns c =
    subst (λ l. OnOk c.push_new.result (Offered c.args.gathered.now l c.push_new.new.gathered))
    (passed (named_of c.args.named) (keeps_name c.args.parent.now c.args.child.now (read_name c.args.named.name.now))
    (ap (keeps_name c.args.parent.now c.args.child.now) (sym (c.deref.ensures ∙ c.in_ok-name.ensures))
    ∙ sym c.keeps_name.ensures ∙ c.if-not-keeps_name.false)) c.push_new.ensures
