use Rattle.std.proofs.Common.{◌≡◌, ◌↔◌, ◌⊎◌, ℕ, List, true, map, take}
use Rattle.std.specs.List.{Contains}
use Rattle.bib_queries.specs.Needed.{is_listed}
use Rattle.bib_queries.specs.Searching.{holders_in}
use Rattle.bib_queries.proofs.needed.add_holders.Given as goal

abbrev pub invariant-names : goal.invariant-names
invariant-names l =
    (name : List ℕ) (one : ℕ)
    → Contains (holders_in l.holders name) one ↔
    (Contains (holders_in l.initial.holders name) one
    ⊎ ((one ≡ l.index) × (is_listed (map (λ n. n.now) (take l.name-index l.names)) name ≡ true)))
