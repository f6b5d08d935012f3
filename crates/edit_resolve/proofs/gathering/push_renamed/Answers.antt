use Rattle.std.proofs.Common.{◌≡◌, ◌∙◌, ap, option_map, sym, subst, Some}
use Rattle.std.specs.Prelude.{OnOk}
use Rattle.edit_resolve.specs.Inheritance.{name_by_crossref, read_name}
use Rattle.edit_resolve.specs.Working.{Offered, named_of}
use Rattle.edit_resolve.proofs.GatheringFacts.{renamed_found}
use Rattle.edit_resolve.proofs.gathering.push_renamed.Goals as goal

pub returns : goal.returns
returns c =
    let read = sym (c.deref.ensures ∙ c.in_ok-name.ensures) in
    let found : name_by_crossref c.args.parent.now c.args.child.now (read_name c.args.named.name.now) ≡ Some c.in-Some.name.now =
    ap (name_by_crossref c.args.parent.now c.args.child.now) read
    ∙ sym c.name_by_crossref.ensures ∙ ap (option_map (λ n. n.now)) c.in-Some.is in
    subst (λ l. OnOk c.push_new.result (Offered c.args.gathered.now l c.push_new.new.gathered))
    (renamed_found (named_of c.args.named) (name_by_crossref c.args.parent.now c.args.child.now (read_name c.args.named.name.now))
    c.in-Some.name.now found) c.push_new.ensures
