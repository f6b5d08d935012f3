use Rattle.std.proofs.Common.{◌∙◌, sym, ap, length, lit<, map}
use Rattle.std.proofs.lemmas.Iterator.Consumers.{YieldsList-end, YieldsList-so_far, YieldsList-turn}
use Rattle.std.proofs.lemmas.Iterator.Splits.{YieldsList-from_str_split}
use Rattle.edit_orders.specs.Orders.{part_named, comma_words}
use Rattle.edit_orders.proofs.OrderFacts.{first_unknown, too_many}
use Rattle.edit_orders.proofs.order.Order.parse.Goals as goal

pub returns-in_default-clause-refused : goal.returns-in_default-clause-refused
returns-in_default-clause-refused c =
    let turn =
    YieldsList-turn (YieldsList-from_str_split 44 c.args.text.now (lit< tt) (cc) (cc) (cc)) c.words.yielded _
    c.words.yielded_by _ _ c.in-Some.word c.in-Some.is c.next.ensures.steps in
    let so_far =
    YieldsList-so_far (YieldsList-from_str_split 44 c.args.text.now (lit< tt) (cc) (cc) (cc)) c.words.yielded _
    c.words.yielded_by in
    first_unknown _ (comma_words c.args.text.now) (length c.words.yielded) c.in-Some.word.now turn.0 turn.1
    (c.words.invariant ∙ ap (map part_named) so_far) (sym c.part_named.ensures ∙ c.in_default.is)

pub returns-in_default-then-clause-refused : goal.returns-in_default-then-clause-refused
returns-in_default-then-clause-refused c =
    let turn =
    YieldsList-turn (YieldsList-from_str_split 44 c.args.text.now (lit< tt) (cc) (cc) (cc)) c.words.yielded _
    c.words.yielded_by _ _ c.in-Some.word c.in-Some.is c.next.ensures.steps in
    let so_far =
    YieldsList-so_far (YieldsList-from_str_split 44 c.args.text.now (lit< tt) (cc) (cc) (cc)) c.words.yielded _
    c.words.yielded_by in
    too_many c.words.order (comma_words c.args.text.now) (length c.words.yielded) c.in-Some.word.now c.in-Some-part_named.part turn.0 turn.1
    (c.words.invariant ∙ ap (map part_named) so_far)
    (sym c.part_named.ensures ∙ c.in-Some-part_named.is) c.in_default-then.ensures

pub returns-clause-parsed : goal.returns-clause-parsed
returns-clause-parsed c =
    let all =
    YieldsList-end (YieldsList-from_str_split 44 c.args.text.now (lit< tt) (cc) (cc) (cc)) c.words.yielded _
    c.words.yielded_by _ _ c.in-None.is c.next.ensures.steps in
    c.words.invariant ∙ ap (map part_named) all.0
