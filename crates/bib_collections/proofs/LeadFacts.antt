-- Facts about chains of references and topological orders.
use Rattle.std.proofs.Common.{◌≡◌, inl, inr, ℕ, ◌+◌, ◌<◌, List, get_or, length, arith}
use Rattle.std.specs.List.{Contains}
use Rattle.std.proofs.lemmas.Bool.{cases_lt, le-ltb}
use Rattle.std.proofs.lemmas.List.Elements.{Contains-get_or}
use Rattle.bib_collections.specs.Graph.{Graph, IsTopologicalOrder, Leads, more, one, refs_of}
use Rattle.bib_collections.proofs.Work.{as_one, times_from_contains}

-- an index that leads to another has a reference
pub first_edge : {graph : Graph} {a b : ℕ} → Leads graph a b → (c : ℕ) × Contains (refs_of graph a) c
first_edge (one {b = b} edge) = (b, edge)
first_edge (more {b = b} edge leads) = (b, edge)

-- an index in a topological order is in range
pub turn_within : (graph : Graph) (turns : List ℕ) (i : ℕ) → IsTopologicalOrder graph turns → i < length turns
    → get_or turns i 0 < length graph
turn_within graph turns i h within =
    let p : ℕ = get_or turns i 0 in
    elim (cases_lt p (length graph)) [
      | inl t ↦ t
      | inr t ↦ absurd
          (omega (
            arith,
            times_from_contains p turns (Contains-get_or turns i 0 within),
            h.once p,
            as_one _ _ (le-ltb p (length graph) t),
          ))
    ]
