use Rattle.bib_collections.proofs.CopyFacts.{sorted_copy, map_copy}
use Rattle.bib_collections.proofs.text_map.TextMapClone.clone.Goals as goal

pub invariant_of-result : goal.invariant_of-result
invariant_of-result g c =
    sorted_copy g.V.Clone.is_clone c.self.inside.pairs.items c.in_ok-pairs.pairs.items c.in_ok-pairs.ensures.cases.0
    c.self.invariant

pub returns : goal.returns
returns g c = record {
  cases =
      map_copy g.V.Clone.is_clone c.args.self.now c.self.inside.pairs.items c.in_ok-pairs.pairs.items c.self.view_is
      c.self.invariant c.in_ok-pairs.ensures.cases.0;
}
