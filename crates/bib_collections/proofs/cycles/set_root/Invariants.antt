use Rattle.std.proofs.Common.{◌≡◌, ◌⊎◌, ℕ, Some, take}
use Rattle.std.specs.List.{Contains}
use Rattle.bib_collections.specs.Search.{root_at}
use Rattle.bib_collections.proofs.cycles.set_root.Given as goal

abbrev pub invariant-loop-r : goal.invariant-loop-r
invariant-loop-r l =
    (index : ℕ)
    → (root_at l.roots index ≡ root_at l.fn.roots index)
    ⊎ ((root_at l.roots index ≡ Some l.root) × Contains (take l.r-index l.indices) index)
