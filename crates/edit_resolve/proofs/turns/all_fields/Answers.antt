use Rattle.std.proofs.Common.{refl, subst, sym}
use Rattle.bib_collections.specs.Graph.{HasNoCycle, IsInRange, IsTopologicalOrder}
use Rattle.bib_collections.specs.Rows.{rows}
use Rattle.edit_resolve.specs.Parents.{parent_graph}
use Rattle.edit_resolve.specs.Working.{readings}
use Rattle.edit_resolve.proofs.AlongFacts.{graph_error}
use Rattle.edit_resolve.proofs.ParentFacts.{graph_in_range, graph_known}
use Rattle.edit_resolve.proofs.turns.all_fields.Goals as goal

pub topological_order-requires : goal.topological_order-requires
topological_order-requires c =
    let graph =
    graph_known (readings c.args.file.now) c.args.parents.now c.args.parents.now c.in_ok-refs.refs.items c.deref.result.now
    c.requires.parents refl c.in_ok-refs.ensures c.deref.ensures.value in
    record { in_range = subst (λ g. IsInRange g) (sym graph) (graph_in_range (readings c.args.file.now)) }

pub returns-in_err-order-clause-refused : goal.returns-in_err-order-clause-refused
returns-in_err-order-clause-refused c =
    let graph =
    graph_known (readings c.args.file.now) c.args.parents.now c.args.parents.now c.in_ok-refs.refs.items c.deref.result.now
    c.requires.parents refl c.in_ok-refs.ensures c.deref.ensures.value in
    graph_error (readings c.args.file.now) (rows c.deref.result.now) c.from_residual-in_err-order.result _ graph
    c.from_residual-in_err-order.ensures.1 c.in_err-order.ensures.error

pub fields_in_order-requires-clause-order : goal.fields_in_order-requires-clause-order
fields_in_order-requires-clause-order c =
    let graph =
    graph_known (readings c.args.file.now) c.args.parents.now c.args.parents.now c.in_ok-refs.refs.items c.deref.result.now
    c.requires.parents refl c.in_ok-refs.ensures c.deref.ensures.value in
    subst (λ l. IsTopologicalOrder (parent_graph (readings c.args.file.now)) l) (sym c.deref-2.ensures.value)
    (subst (λ g. IsTopologicalOrder g c.in_ok-order.order.items) graph c.in_ok-order.ensures.order)

pub returns-clause-no_cycle : goal.returns-clause-no_cycle
returns-clause-no_cycle c =
    let graph =
    graph_known (readings c.args.file.now) c.args.parents.now c.args.parents.now c.in_ok-refs.refs.items c.deref.result.now
    c.requires.parents refl c.in_ok-refs.ensures c.deref.ensures.value in
    subst (λ g. HasNoCycle g) graph c.in_ok-order.ensures.no_cycle
