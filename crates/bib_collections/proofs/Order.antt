-- Facts about orders in which each index comes after those that it refers to: no index in them leads to itself.
use Rattle.std.proofs.Common.{◌≡◌, ℕ, zero, suc, ◌+◌, ◌<◌, List, [], ◌∷◌, ◌++◌, cond, eqb, length, get_or, take, refl, sym, ◌∙◌, subst, arith, inl, inr}
use Rattle.std.specs.List.{All, Contains, count_by}
use Rattle.std.proofs.lemmas.List.{get_or_default, get_or-take, length-take-le}
use Rattle.std.proofs.lemmas.List.Elements.{All-contains}
use Rattle.std.proofs.lemmas.List.Sums.{fold_push, sum_by-cons}
use Rattle.std.proofs.lemmas.Bool.{lt-ltb}
use Rattle.std.proofs.lemmas.Bool.Decides.{eqb_tells}
use Rattle.bib_collections.specs.Graph.{refs_of, IsTopologicalOrder, AreInOrder, Leads, one, more, HasNoCycle}
use Rattle.bib_text.proofs.ListFacts.{contains_more}

-- a list contains each index that occurs in it at least once
pub contains_from_count : (p : ℕ) (xs : List ℕ) → 0 < count_by (λ t. eqb t p) xs → Contains xs p
contains_from_count p [] h = absurd (omega arith)
contains_from_count p (x ∷ xs) h =
    let e = sum_by-cons (λ t. cond (eqb t p) 1 0) x xs in
    elim (eqb_tells x p) [
      | inl t ↦ (0, omega arith, t.1)
      | inr t ↦ contains_more x p xs (contains_from_count p xs (subst (λ n. 0 < n) (e ∙ (rw t.0 (omega arith))) h))
    ]

pub count_push : (p x : ℕ) (xs : List ℕ) → count_by (λ t. eqb t p) (xs ++ x ∷ []) ≡ count_by (λ t. eqb t p) xs + cond (eqb x p) 1 0
count_push p x xs = fold_push (λ a t. a + cond (eqb t p) 1 0) 0 xs x

-- an index among the first `i` of an order is at some `j` less than `i`
pub at_index : (order : List ℕ) (i b : ℕ) → i < length order → Contains (take i order) b → (j : ℕ) × (j < i) × (get_or order j 0 ≡ b)
at_index order i b within (j, below, e) =
    let lt : j < i = omega (arith, below, length-take-le i order (omega arith)) in
    (j, lt, get_or_default order j 0 b (omega arith) ∙ sym (get_or-take i order j b lt) ∙ e)

-- an index comes after each index that it leads to
following : (graph : List (List ℕ)) (order : List ℕ) (a b : ℕ) → AreInOrder graph order → Leads graph a b → (i : ℕ)
    → i < length order → get_or order i 0 ≡ a → (j : ℕ) × (j < i) × (get_or order j 0 ≡ b)
following graph order a b h (one e) i within at =
    at_index order i b within
    (All-contains (Contains (take i order)) (refs_of graph a) b
    (subst (λ x. All (Contains (take i order)) (refs_of graph x)) at (h i within)) e)
following graph order a c h (more {b = b} e r) i within at =
    let j =
    at_index order i b within
    (All-contains (Contains (take i order)) (refs_of graph a) b
    (subst (λ x. All (Contains (take i order)) (refs_of graph x)) at (h i within)) e) in
    let k = following graph order b c h r j.0 (omega arith) j.2 in
    (k.0, omega arith, k.2)

-- the index at `i` of an order doesn't lead to itself; the proof is by recursion on the bound `n`
no_return_at : (graph : List (List ℕ)) (order : List ℕ) (a : ℕ) → AreInOrder graph order → Leads graph a a → (n i : ℕ)
    → i < n → i < length order → get_or order i 0 ≡ a → ⊥
no_return_at graph order a h r zero i below within at = absurd (omega arith)
no_return_at graph order a h r (suc n) i below within at =
    let j = following graph order a a h r i within at in no_return_at graph order a h r n j.0 (omega arith) (omega arith) j.2

-- an index that occurs once in such an order doesn't lead to itself
pub no_return : (graph : List (List ℕ)) (order : List ℕ) (a : ℕ) → AreInOrder graph order
    → count_by (λ t. eqb t a) order ≡ 1 → Leads graph a a → ⊥
no_return graph order a h counted r =
    let there = contains_from_count a order (omega arith) in
    no_return_at graph order a h r (suc there.0) there.0 (omega arith) there.1 (get_or_default order there.0 0 a there.1 ∙ there.2)

-- a graph with a topological order has no cycle
pub no_cycle_from_order : (graph : List (List ℕ)) (order : List ℕ) → IsTopologicalOrder graph order → HasNoCycle graph
no_cycle_from_order graph order h a within r = no_return graph order a h.in_order (rw (h.once a, lt-ltb a (length graph) within) refl) r
