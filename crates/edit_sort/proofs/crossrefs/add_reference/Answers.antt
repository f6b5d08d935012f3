use Rattle.std.proofs.Common.{◌≡◌, ℕ, Bool, false, OnOk, sym, ap, ◌∙◌, subst}
use Rattle.std.specs.Prelude.{◌&&◌, ◌||◌}
use Rattle.std.specs.List.{list_any}
use Rattle.std.specs.Option.{option_map_or}
use Rattle.std.proofs.Math.Bool.{or-false}
use Rattle.bib_collections.specs.Graph.{refs_of}
use Rattle.bib_collections.specs.Rows.{rows}
use Rattle.edit_sort.specs.Ranks.{points_to}
use Rattle.edit_sort.proofs.crossrefs.add_reference.Goals as goal

pub returns-in-Some-clause-rows : goal.returns-in-Some-clause-rows
returns-in-Some-clause-rows c =
    subst
    (λ o.
    OnOk c.add_child.result ((test : ℕ → Bool) (index : ℕ)
    → list_any test (refs_of (rows c.add_child.new.children.items) index)
    ≡ (list_any test (refs_of (rows c.args.children.now.items) index)
    || (option_map_or (points_to c.args.names.now index) o false && test c.args.child))))
    c.in-Some.ensures c.add_child.ensures.rows

pub returns-in-None-clause-rows : goal.returns-in-None-clause-rows
returns-in-None-clause-rows c = λ test index.
    let old = list_any test (refs_of (rows c.args.children.now.items) index) in
    sym (or-false old)
    ∙ ap (λ o. old || (option_map_or (points_to c.args.names.now index) o false && test c.args.child)) c.in-None.ensures
