use Rattle.std.proofs.Common.{Some, sym, ap, ◌∙◌}
use Rattle.std.specs.FinMap as map
use Rattle.bib_collections.specs.Sorted.{IsIndexOf, IsGapFor, by_bytes}
use Rattle.bib_collections.proofs.SortedFacts.{get_at, get_found, get_gap}
use Rattle.bib_collections.proofs.text_map.TextMap.get.Goals as goal

pub returns-in-Ok : goal.returns-in-Ok
returns-in-Ok g c =
    let at : IsIndexOf c.self.inside.pairs.items c.args.name.now c.in-Ok.index = rw (← c.as_slice-2.ensures.value) c.in-Ok.ensures in
    sym (get_at _ _ c.self.view_is c.self.invariant _ _ at c.index.result.now ∙ ap (λ p. Some p.1) (sym c.index.ensures))

pub returns-in-Err : goal.returns-in-Err
returns-in-Err g c =
    let gap : IsGapFor c.self.inside.pairs.items c.args.name.now c.in-Err.field-0 = rw (← c.as_slice-2.ensures.value) c.in-Err.ensures in
    sym (get_gap _ _ c.self.view_is c.self.invariant _ _ gap)

pub returns-then-len-le-FEW : goal.returns-then-len-le-FEW
returns-then-len-le-FEW g c =
    c.find_linear.ensures ∙ ap (map.find by_bytes c.args.name.now) c.as_slice.ensures.value
    ∙ sym (get_found _ _ c.self.view_is c.self.invariant _)
