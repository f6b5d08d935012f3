use Rattle.std.proofs.Common.{◌≡◌, ℕ, eqb, take}
use Rattle.std.specs.BTreeSet.{contains}
use Rattle.std.specs.List.{All, Contains, list_any}
use Rattle.std.specs.Ordering.{nat_cmp}
use Rattle.bib_inheritance.proofs.TurnFacts.{GivesSame}
use Rattle.bib_inheritance.proofs.turning.without_repetitions.Given as goal

-- the indices so far, without repetitions
abbrev pub invariant-indices : goal.invariant-indices
invariant-indices l = record {
  among : All (Contains l.indices) l.first.items;
  seen : (q : ℕ) → contains nat_cmp l.seen q ≡ list_any (λ x. eqb x q) (take l.index-index l.indices);
  same : GivesSame l.first.items (take l.index-index l.indices);
}
