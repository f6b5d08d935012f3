use Rattle.std.proofs.Common.{[], Vec, ℕ, set, sym, ap, ◌∙◌}
use Rattle.std.specs.Prelude.{if◌then◌else◌}
use Rattle.std.specs.declared.alloc.Global.{Global}
use Rattle.std.proofs.lemmas.List.{map-set}
use Rattle.bib_collections.specs.Rows.{rows}
use Rattle.edit_sort.proofs.ranks.cut_row.Goals as goal

pub returns-then-is_on_cycle : goal.returns-then-is_on_cycle
returns-then-is_on_cycle c =
    let old = rows c.args.graph.now.items in
    map-set (λ (v : Vec ℕ Global). v.items) c.args.graph.now.items c.args.index c.new.result
    ∙ ap (set old c.args.index) c.new.ensures.items
    ∙ sym (ap (λ b. if b then set old c.args.index [] else old) c.if-is_on_cycle.true)
