use Rattle.std.proofs.Common.{map, subst}
use Rattle.std.specs.List.{filter}
use Rattle.std.proofs.lemmas.List.Elements.{filter-append}
use Rattle.std.proofs.lemmas.List.{take_all}
use Rattle.edit_resolve.specs.Inheritance.{passes_on, read_name}
use Rattle.edit_resolve.specs.Working.{Gives, named_of}
use Rattle.edit_resolve.proofs.GivenFacts.{gives_more, gives_none}
use Rattle.edit_resolve.proofs.giving.give_all.Goals as goal

pub fields-init : goal.fields-init
fields-init c = gives_none c.args.given.now

pub fields-preserved : goal.fields-preserved
fields-preserved c =
    gives_more (filter (λ n. passes_on (read_name n.name))) (filter-append (λ n. passes_on (read_name n.name))) c.args.fields.now
    c.fields.named-index c.named-item.result c.args.given.now c.fields.given c.give.new.given c.fields-test.true
    c.named-item.is c.fields.invariant c.in_ok-give.ensures

pub returns : goal.returns
returns c =
    subst (λ l. Gives c.args.given.now (filter (λ n. passes_on (read_name n.name)) (map named_of l)) c.fields.given)
    (take_all c.fields.named-index c.args.fields.now c.fields-test.false) c.fields.invariant
