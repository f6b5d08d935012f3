use Rattle.std.proofs.Common.{◌≡◌, ◌++◌, ℕ, List}
use Rattle.std.specs.Vec.Iter.{into_iter_items}
use Rattle.bib_collections.specs.Names.{with_claims, claims_for}
use Rattle.bib_collections.proofs.claims.Claims.claim_all.Given as goal

-- the names so far are claimed, and the remaining ones come after them
abbrev pub invariant-names : goal.invariant-names
invariant-names l = record {
  can_next : (goal.iterator-names).can_next l.name-iterator;
  is_finite : (goal.iterator-names).is_finite l.name-iterator;
  claims : (done : List (List ℕ)) × (l.fn.names.items ≡ done ++ into_iter_items l.name-iterator)
      × (l.self ≡ with_claims l.fn.self (claims_for done l.index));
}
