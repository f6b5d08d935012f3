use Rattle.std.proofs.Common.{Some, sym, ap, ◌∙◌, rules}
use Rattle.bib_collections.specs.Sorted.{IsIndexOf, IsGapFor}
use Rattle.bib_collections.proofs.SortedFacts.{get_at, get_gap, remove_absent, remove_at, remove_sorted, remove_gap}
use Rattle.bib_collections.proofs.text_map.TextMap.remove.Goals as goal

pub invariant_of-self : goal.invariant_of-self
invariant_of-self g c =
    let at : IsIndexOf c.self.inside.pairs.items c.args.name.now c.in-Ok.index = rw (← c.as_slice.ensures.value) c.in-Ok.ensures in
    rw c.remove-value.ensures.items (remove_sorted _ _ c.self.view_is c.self.invariant _ _ at)

pub returns-in-Ok-clause-had : goal.returns-in-Ok-clause-had
returns-in-Ok-clause-had g c =
    let at : IsIndexOf c.self.inside.pairs.items c.args.name.now c.in-Ok.index = rw (← c.as_slice.ensures.value) c.in-Ok.ensures in
    sym (get_at _ _ c.self.view_is c.self.invariant _ _ at c.remove-value.result ∙ ap (λ p. Some p.1) (sym c.remove-value.ensures.value))

pub returns-in-Ok-clause-removed : goal.returns-in-Ok-clause-removed
returns-in-Ok-clause-removed g c =
    let at : IsIndexOf c.self.inside.pairs.items c.args.name.now c.in-Ok.index = rw (← c.as_slice.ensures.value) c.in-Ok.ensures in
    rw c.remove-value.ensures.items (remove_at _ _ c.self.view_is c.self.invariant _ _ at)

pub returns-in-Err-clause-had : goal.returns-in-Err-clause-had
returns-in-Err-clause-had g c =
    let gap : IsGapFor c.self.inside.pairs.items c.args.name.now c.in-Err.field-0 = rw (← c.as_slice.ensures.value) c.in-Err.ensures in
    sym (get_gap _ _ c.self.view_is c.self.invariant _ _ gap)

pub returns-in-Err-clause-removed : goal.returns-in-Err-clause-removed
returns-in-Err-clause-removed g c =
    let gap : IsGapFor c.self.inside.pairs.items c.args.name.now c.in-Err.field-0 = rw (← c.as_slice.ensures.value) c.in-Err.ensures in
    remove_gap _ _ c.self.view_is c.self.invariant _ _ gap

pub returns-in_err-get-clause-removed : goal.returns-in_err-get-clause-removed
returns-in_err-get-clause-removed g c = remove_absent c.args.self.now c.args.name.now (search rules)
