use Rattle.std.proofs.Common.{◌∙◌, ap, sym, subst}
use Rattle.std.specs.Prelude.{OnOk}
use Rattle.edit_resolve.specs.Inheritance.{passes_on, read_name}
use Rattle.edit_resolve.specs.Working.{Offered, named_of}
use Rattle.edit_resolve.proofs.GatheringFacts.{passed}
use Rattle.edit_resolve.proofs.gathering.push_passed.Goals as goal

pub returns : goal.returns
returns c =
    subst (λ l. OnOk c.push_new.result (Offered c.args.gathered.now l c.push_new.new.gathered))
    (passed (named_of c.args.named) (passes_on (read_name c.args.named.name.now))
    (ap passes_on (sym (c.deref.ensures ∙ c.in_ok-name.ensures)) ∙ sym c.passes_on.ensures ∙ c.if-not-passes_on.false)) c.push_new.ensures
