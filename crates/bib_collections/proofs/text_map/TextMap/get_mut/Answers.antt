use Rattle.std.proofs.Common.{Some, inr, sym, ap, ◌∙◌}
use Rattle.bib_collections.specs.Sorted.{IsIndexOf, IsGapFor}
use Rattle.bib_collections.proofs.SortedFacts.{lent, get_at, get_gap, set_written, set_sorted}
use Rattle.bib_collections.proofs.text_map.TextMap.get_mut.Goals as goal

pub invariant_of-self-lent : goal.invariant_of-self-lent
invariant_of-self-lent g c w =
    let at : IsIndexOf c.self.inside.pairs.items c.args.name.now c.in-Ok.index = rw (← c.as_slice.ensures.value) c.in-Ok.ensures in
    rw c.index_mut.ensures.value (set_sorted _ _ c.self.view_is c.self.invariant _ _ at w c.index_mut.result.now)

pub returns-in-Ok : goal.returns-in-Ok
returns-in-Ok g c =
    let at : IsIndexOf c.self.inside.pairs.items c.args.name.now c.in-Ok.index = rw (← c.as_slice.ensures.value) c.in-Ok.ensures in (
      lent _ _ _
          (λ w.
          set_written c.args.self.now c.self.inside.pairs.items c.self.view_is c.self.invariant c.args.name.now
          c.in-Ok.index at c.index_mut.result.now c.index_mut.ensures.value w),
      sym
          (get_at _ _ c.self.view_is c.self.invariant _ _ at c.index_mut.result.now
          ∙ ap (λ p. Some p.1) (sym c.index_mut.ensures.value)),
    )

pub returns-in-Err : goal.returns-in-Err
returns-in-Err g c =
    let gap : IsGapFor c.self.inside.pairs.items c.args.name.now c.in-Err.field-0 = rw (← c.as_slice.ensures.value) c.in-Err.ensures in
    (ap inr c.self.view_is, sym (get_gap _ _ c.self.view_is c.self.invariant _ _ gap))
