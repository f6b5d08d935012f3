use Rattle.std.proofs.Common.{◌≡◌, ◌∙◌, ◌++◌, ap, map, sym}
use Rattle.std.specs.List.{before_first}
use Rattle.std.specs.Option.{is_some}
use Rattle.edit_merge.proofs.OrderFacts.{run_ends, run_goes_on}
use Rattle.edit_merge.proofs.order.push_run.Goals as goal
use Rattle.edit_versions.specs.Versions.{has_unit_named}

pub names-preserved : goal.names-preserved
names-preserved c =
    let named : c.is_some.result ≡ has_unit_named c.args.main.now c.name-item.result =
    c.is_some.ensures ∙ ap is_some c.index_of.ensures ∙ ap (has_unit_named c.args.main.now) c.as_str.ensures in
    run_goes_on (has_unit_named c.args.main.now) c.names_behind-left.result.now _ c.names.name-index c.name-item.result c.names.names.items
    c.push.new.self.items c.as_str-in-names.result c.names-test.true c.name-item.is (sym named ∙ c.if-is_some.false)
    c.in_ok-push.ensures.items c.as_str-in-names.ensures c.names.invariant

pub returns-then-is_some : goal.returns-then-is_some
returns-then-is_some c =
    let named : c.is_some.result ≡ has_unit_named c.args.main.now c.name-item.result =
    c.is_some.ensures ∙ ap is_some c.index_of.ensures ∙ ap (has_unit_named c.args.main.now) c.as_str.ensures in
    run_ends (has_unit_named c.args.main.now) c.names_behind-left.result.now _ c.names.name-index c.name-item.result c.names.names.items
    c.names-test.true c.name-item.is (sym named ∙ c.if-is_some.true) c.names.invariant
    ∙ ap (λ left. map (λ n. n.now) c.args.names.now.items ++ before_first (has_unit_named c.args.main.now) left) c.names_behind-left.ensures
