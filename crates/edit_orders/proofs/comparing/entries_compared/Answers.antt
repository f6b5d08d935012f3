use Rattle.std.proofs.Common.{◌+◌, ◌∙◌, sym, ap, drop}
use Rattle.std.specs.Ordering.{ordering_then}
use Rattle.edit_orders.specs.Values.{values_cmp}
use Rattle.edit_orders.proofs.ComparingFacts.{then_eq, then_ne, values_step}
use Rattle.edit_orders.proofs.comparing.entries_compared.Goals as goal

pub returns-then-is_ne : goal.returns-then-is_ne
returns-then-is_ne c =
    let i = c.order.index in
    let rest = values_cmp (drop (i + 1) c.args.order.now) (drop (i + 1) c.args.first.now) (drop (i + 1) c.args.second.now) in
    sym
    (c.order.invariant ∙ values_step c.args.order.now c.args.first.now c.args.second.now i _ c.order-test.true
    ∙ ap (λ o. ordering_then o rest) (sym c.compared_at-found.ensures)
    ∙ then_ne c.compared_at-found.result rest (sym c.is_ne.ensures ∙ c.if-is_ne.true))

pub order-preserved : goal.order-preserved
order-preserved c =
    let i = c.order.index in
    let rest = values_cmp (drop (i + 1) c.args.order.now) (drop (i + 1) c.args.first.now) (drop (i + 1) c.args.second.now) in
    c.order.invariant ∙ values_step c.args.order.now c.args.first.now c.args.second.now i _ c.order-test.true
    ∙ ap (λ o. ordering_then o rest) (sym c.compared_at-found.ensures)
    ∙ then_eq c.compared_at-found.result rest (sym c.is_ne.ensures ∙ c.if-is_ne.false)
