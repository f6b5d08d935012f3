use Rattle.std.proofs.Common.{Some, sym, ap, ◌∙◌}
use Rattle.bib_collections.specs.Sorted.{IsIndexOf, IsGapFor}
use Rattle.bib_collections.proofs.SortedFacts.{get_at, get_gap}
use Rattle.bib_collections.proofs.names.Names.get.Goals as goal

pub returns-in-Ok : goal.returns-in-Ok
returns-in-Ok c =
    let at : IsIndexOf c.self.inside.pairs.items c.args.name.now c.in-Ok.at = rw (← c.as_slice.ensures.value) c.in-Ok.ensures in
    sym (get_at _ _ c.self.view_is c.self.invariant _ _ at c.index.result.now ∙ ap (λ p. Some p.1) (sym c.index.ensures))

pub returns-in-Err : goal.returns-in-Err
returns-in-Err c =
    let gap : IsGapFor c.self.inside.pairs.items c.args.name.now c.in-Err.field-0 = rw (← c.as_slice.ensures.value) c.in-Err.ensures in
    sym (get_gap _ _ c.self.view_is c.self.invariant _ _ gap)
