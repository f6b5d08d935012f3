use Rattle.std.proofs.Common.{◌≡◌, ◌+◌, ◌≤◌, vec_len, vec_capacity, length}
use Rattle.std.specs.Vec.Iter.{into_iter_items}
use Rattle.bib_collections.specs.Sorted.{IsSorted, map_of}
use Rattle.bib_collections.specs.Names.{with_claims, claims_for}
use Rattle.bib_collections.proofs.names.Names.claim_all.Given as goal

-- the pairs are sorted, claiming the remaining names gives the claims of all names, and the capacity is enough for the remaining ones
abbrev pub invariant-names : goal.invariant-names
invariant-names l = record {
  can_next : (goal.iterator-names).can_next l.name-iterator;
  is_finite : (goal.iterator-names).is_finite l.name-iterator;
  sorted : IsSorted l.self-inside.pairs.items;
  claims : with_claims (map_of l.self-inside.pairs.items) (claims_for (into_iter_items l.name-iterator) l.index)
      ≡ with_claims l.fn.self (claims_for l.fn.names.items l.index);
  room : vec_len l.self-inside.pairs + length (into_iter_items l.name-iterator) ≤ vec_capacity l.self-inside.pairs;
}
