use Rattle.std.proofs.Common.{rules, refl}
use Rattle.std.specs.Fn.{always_mut}
use Rattle.std.specs.Map.Calls.{CalledAtPair}
use denote.Param.Always.{mut_by}
use Rattle.bib_collections.proofs.SortedFacts.{entries_are, holds, is_true}
use Rattle.bib_collections.proofs.RetainingFacts.{sorted-retained, pairs_retained}
use Rattle.bib_collections.proofs.text_map.TextMap.retain.Goals as goal

pub retain_mut-requires : goal.retain_mut-requires
retain_mut-requires g c = mut_by _ (λ s. always_mut g.F.FnMut s.0.now) (λ s a i. i) (λ s a r t i e. search rules) _ c.requires

pub invariant_of-self : goal.invariant_of-self
invariant_of-self g c =
    is_true _ (sorted-retained _ (λ s x b t y called. search rules) _ _ _ _ c.retain_mut.ensures.filtered (holds _ c.self.invariant))

pub returns : goal.returns
returns g c =
    let sorted =
    is_true _
    (sorted-retained _ (λ s x b t y called. search rules) _ _ _ _ c.retain_mut.ensures.filtered
    (holds _ c.self.invariant)) in
    rw (entries_are _ _ c.self.view_is c.self.invariant, entries_are _ _ refl sorted)
    (pairs_retained _ (λ s x b t y called. search rules) (CalledAtPair g.F.FnMut) (λ s. s.0.now)
    (λ s x b t y called. search rules) _ _ _ c.retain_mut.ensures.filtered)
