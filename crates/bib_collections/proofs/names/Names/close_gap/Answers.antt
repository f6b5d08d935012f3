use Rattle.std.proofs.Common.{rules}
use Rattle.bib_collections.specs.Names.{moved_pair}
use Rattle.bib_collections.proofs.NamesFacts.{retained, moved_sorted, moved_names}
use Rattle.bib_collections.proofs.names.Names.close_gap.Goals as goal

pub invariant_of-self : goal.invariant_of-self
invariant_of-self c =
    rw (retained _ (moved_pair c.args.index) _ (λ x b f y called. search rules) _ _ c.retain_mut.ensures.filtered)
    (moved_sorted c.args.index c.self.inside.pairs.items c.self.invariant)

pub returns : goal.returns
returns c =
    rw (retained _ (moved_pair c.args.index) _ (λ x b f y called. search rules) _ _ c.retain_mut.ensures.filtered)
    (moved_names c.args.index c.args.self.now c.self.inside.pairs.items c.self.view_is c.self.invariant)
