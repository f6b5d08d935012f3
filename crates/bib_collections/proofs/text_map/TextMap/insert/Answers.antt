use Rattle.std.proofs.Common.{Some, sym, ap, ◌∙◌}
use Rattle.bib_collections.specs.Sorted.{IsIndexOf, IsGapFor}
use Rattle.bib_collections.proofs.SortedFacts.{get_at, get_gap, set_at, set_sorted, insert_gap, insert_sorted, not_found}
use Rattle.bib_collections.proofs.text_map.TextMap.insert.Goals as goal

pub invariant_of-self : goal.invariant_of-self
invariant_of-self g c =
    let at : IsIndexOf c.self.inside.pairs.items c.args.name c.in-Ok.index =
    rw (← c.as_slice.ensures.value, ← c.as_str.ensures) c.in-Ok.ensures in
    rw (c.replace.ensures.after, c.index_mut.ensures.value)
    (set_sorted _ _ c.self.view_is c.self.invariant _ _ at c.args.value c.index_mut.result.now)

pub returns-in-Ok-clause-had : goal.returns-in-Ok-clause-had
returns-in-Ok-clause-had g c =
    let at : IsIndexOf c.self.inside.pairs.items c.args.name c.in-Ok.index =
    rw (← c.as_slice.ensures.value, ← c.as_str.ensures) c.in-Ok.ensures in
    ap Some c.replace.ensures.value
    ∙ sym
    (get_at _ _ c.self.view_is c.self.invariant _ _ at c.index_mut.result.now
    ∙ ap (λ p. Some p.1) (sym c.index_mut.ensures.value))

pub returns-in-Ok-clause-inserted : goal.returns-in-Ok-clause-inserted
returns-in-Ok-clause-inserted g c =
    let at : IsIndexOf c.self.inside.pairs.items c.args.name c.in-Ok.index =
    rw (← c.as_slice.ensures.value, ← c.as_str.ensures) c.in-Ok.ensures in
    rw (c.replace.ensures.after, c.index_mut.ensures.value)
    (set_at _ _ c.self.view_is c.self.invariant _ _ at c.args.value c.index_mut.result.now)

pub returns-in_err-insert-in-Err-clause-present : goal.returns-in_err-insert-in-Err-clause-present
returns-in_err-insert-in-Err-clause-present g c =
    let gap : IsGapFor c.self.inside.pairs.items c.args.name c.in-Err.index =
    rw (← c.as_slice.ensures.value, ← c.as_str.ensures) c.in-Err.ensures in
    not_found (get_gap _ _ c.self.view_is c.self.invariant _ _ gap)

pub invariant_of-self-in-Err : goal.invariant_of-self-in-Err
invariant_of-self-in-Err g c =
    let gap : IsGapFor c.self.inside.pairs.items c.args.name c.in-Err.index =
    rw (← c.as_slice.ensures.value, ← c.as_str.ensures) c.in-Err.ensures in
    rw c.in_ok-insert-in-Err.ensures.items (insert_sorted _ _ c.self.view_is c.self.invariant _ _ gap c.args.value)

pub returns-in_ok-insert-in-Err-clause-had : goal.returns-in_ok-insert-in-Err-clause-had
returns-in_ok-insert-in-Err-clause-had g c =
    let gap : IsGapFor c.self.inside.pairs.items c.args.name c.in-Err.index =
    rw (← c.as_slice.ensures.value, ← c.as_str.ensures) c.in-Err.ensures in
    sym (get_gap _ _ c.self.view_is c.self.invariant _ _ gap)

pub returns-in_ok-insert-in-Err-clause-inserted : goal.returns-in_ok-insert-in-Err-clause-inserted
returns-in_ok-insert-in-Err-clause-inserted g c =
    let gap : IsGapFor c.self.inside.pairs.items c.args.name c.in-Err.index =
    rw (← c.as_slice.ensures.value, ← c.as_str.ensures) c.in-Err.ensures in
    rw c.in_ok-insert-in-Err.ensures.items (insert_gap _ _ c.self.view_is c.self.invariant _ _ gap c.args.value)
