-- Walks in a graph in range. Without cycles, no walk from an entry has as many references as the graph has entries, so the equation
-- has exactly one solution.
use Rattle.std.proofs.Common.{◌≡◌, ℕ, zero, suc, ◌+◌, ◌<◌, ◌≤◌, List, [], ◌∷◌, false, eqb, length, get_or, map, refl, sym, ap, ◌∙◌, subst, arith, inl, inr}
use Rattle.std.specs.List.{All, AllByRecursion, Contains, IsDistinct, range_with_len}
use Rattle.std.proofs.lemmas.List.{length-map, ext_get_or, get_or-map}
use Rattle.std.proofs.lemmas.List.Elements.{All-get_or, All-contains, All-from_recursion, Contains-get_or}
use Rattle.std.proofs.lemmas.List.FromFn.{length-map-range_with_len, get_or-map-range_with_len}
use Rattle.std.proofs.lemmas.Map.Steps.{length-le_from_distinct_below}
use Rattle.std.proofs.lemmas.Map.Views.{Contains-from_any}
use Rattle.std.proofs.lemmas.Bool.{eqb-true}
use Rattle.std.proofs.lemmas.Bool.Decides.{eqb_tells}
use Rattle.bib_collections.specs.Graph.{refs_of, IsInRange, Leads, one, more, HasNoCycle, Solves, HasOneSolution}

-- a walk of this number of references begins at an index
abbrev pub HasWalk : List (List ℕ) → ℕ → ℕ → Type 0
HasWalk graph zero a = Unit {0}
HasWalk graph (suc k) a = (b : ℕ) × Contains (refs_of graph a) b × HasWalk graph k b

-- an index that leads to another leads to the references of the other
pub further : {graph : List (List ℕ)} {a b c : ℕ} → Leads graph a b → Contains (refs_of graph b) c → Leads graph a c
further (one e) h = more e (one h)
further (more e r) h = more e (further r h)

-- functions that agree on the elements of a list map it to the same list
pub map_agree : {A B : Type 0} (f g : A → B) (xs : List A) → ((x : A) → Contains xs x → f x ≡ g x) → map f xs ≡ map g xs
map_agree f g [] h = refl
map_agree f g (x ∷ xs) h =
    let d = map f (x ∷ xs) in
    ext_get_or (f x) (map f (x ∷ xs)) (map g (x ∷ xs)) (length-map (x ∷ xs) f ∙ sym (length-map (x ∷ xs) g))
    (λ i below. let within : i < length (x ∷ xs) = subst (λ n. i < n) (length-map (x ∷ xs) f) below in
    get_or-map f (x ∷ xs) i x (f x) within ∙ h (get_or (x ∷ xs) i x) (Contains-get_or (x ∷ xs) i x within)
    ∙ sym (get_or-map g (x ∷ xs) i x (f x) within))

-- in a graph in range, each reference is less than the number of entries
pub below_from_edge : (graph : List (List ℕ)) (a b : ℕ) → IsInRange graph → a < length graph
    → Contains (refs_of graph a) b → b < length graph
below_from_edge graph a b in_range within h =
    All-contains (λ r. r < length graph) (refs_of graph a) b
    (All-get_or (λ refs. All (λ r. r < length graph) refs) graph a [] within in_range) h

module _ (graph : List (List ℕ)) (in_range : IsInRange graph) (none : HasNoCycle graph) where
  -- without cycles, an index is none of the indices that lead to it
  apart : (a : ℕ) (visited : List ℕ) → a < length graph → AllByRecursion (λ v. Leads graph v a) visited
      → AllByRecursion (λ v. eqb a v ≡ false) visited
  apart a [] within r = r
  apart a (v ∷ vs) within r = (
    elim (eqb_tells a v) [ inl e ↦ absurd (none a within (subst (λ x. Leads graph x a) (sym e.1) r.0)) | inr e ↦ e.0 ],
    apart a vs within r.1,
  )

  all_further : (a b : ℕ) (visited : List ℕ) → Contains (refs_of graph a) b
      → AllByRecursion (λ v. Leads graph v a) visited → AllByRecursion (λ v. Leads graph v b) visited
  all_further a b [] e r = r
  all_further a b (v ∷ vs) e r = (further r.0 e, all_further a b vs e r.1)

  -- distinct indices of entries are at most as many as the entries
  few : (visited : List ℕ) → AllByRecursion (λ v. v < length graph) visited → IsDistinct eqb visited → length visited ≤ length graph
  few visited below distinct =
      length-le_from_distinct_below visited (length graph) distinct
      (λ q h.
      All-contains (λ v. v < length graph) visited q (All-from_recursion (λ v. v < length graph) visited below)
      (Contains-from_any eqb-true q visited h))

  -- If distinct visited indices lead to `a`, in a graph in range without cycles, no walk of `k` references begins at `a`, where `k` is
  -- the number of the other indices.
  no_walk_from : (k : ℕ) (visited : List ℕ) (a : ℕ) → length visited + k ≡ length graph
      → AllByRecursion (λ v. v < length graph) visited → IsDistinct eqb visited
      → AllByRecursion (λ v. Leads graph v a) visited → a < length graph → HasWalk graph k a → ⊥
  unfolding IsDistinct
  no_walk_from zero visited a n below distinct r within w =
      let many = few (a ∷ visited) (within, below) (apart a visited within r, distinct) in omega arith
  no_walk_from (suc k) visited a n below distinct r within (b, e, w) =
      no_walk_from k (a ∷ visited) b (omega arith) (within, below) (apart a visited within r, distinct)
      (one e, all_further a b visited e r) (below_from_edge graph a b in_range within e) w

  -- in a graph in range without cycles, no walk of as many references as there are entries begins at an entry
  pub no_long_walk : (a : ℕ) → a < length graph → HasWalk graph (length graph) a → ⊥
  unfolding IsDistinct
  no_long_walk a within w = no_walk_from (length graph) [] a (omega arith) tt tt tt within w

  module _ {V : Type 0} (nothing : V) (step : ℕ → List V → V) where
    -- two solutions agree on each index at which no walk of `k` references begins
    agree : (k : ℕ) (values others : List V) (a : ℕ) → Solves nothing step graph values
        → Solves nothing step graph others → a < length graph → (HasWalk graph k a → ⊥)
        → get_or others a nothing ≡ get_or values a nothing
    agree zero values others a s t within h = absurd (h tt)
    agree (suc k) values others a s t within h =
        t.each a within
        ∙ ap (step a) (map_agree (λ r. get_or others r nothing) (λ r. get_or values r nothing) (refs_of graph a)
        (λ b e. agree k values others b s t (below_from_edge graph a b in_range within e) (λ w. h (b, e, w))))
        ∙ sym (s.each a within)

    -- the value of an index when the equation is unfolded this number of times
    abbrev unfolded : ℕ → ℕ → V
    unfolded zero a = nothing
    unfolded (suc k) a = step a (map (unfolded k) (refs_of graph a))

    steady : (k a : ℕ) → a < length graph → (HasWalk graph k a → ⊥) → unfolded k a ≡ unfolded (suc k) a
    steady zero a within h = absurd (h tt)
    steady (suc k) a within h =
        ap (step a) (map_agree (unfolded k) (unfolded (suc k)) (refs_of graph a)
        (λ b e. steady k b (below_from_edge graph a b in_range within e) (λ w. h (b, e, w))))

    solution : List V
    solution = map (unfolded (length graph)) (range_with_len 0 (length graph))

    at_solution : (a : ℕ) → a < length graph → get_or solution a nothing ≡ unfolded (length graph) a
    unfolding solution
    at_solution a within = get_or-map-range_with_len (unfolded (length graph)) 0 (length graph) a a nothing within (omega arith)

    solved : Solves nothing step graph solution
    unfolding solution
    solved = record {
      same_length = length-map-range_with_len (unfolded (length graph)) 0 (length graph);
      each = λ a within. at_solution a within ∙ steady (length graph) a within (no_long_walk a within)
          ∙ ap (step a)
          (map_agree (unfolded (length graph)) (λ r. get_or solution r nothing) (refs_of graph a)
          (λ b e. sym (at_solution b (below_from_edge graph a b in_range within e))));
    }

    pub one_solution : HasOneSolution nothing step graph
    one_solution = (
      solution,
      solved,
      λ others t. ext_get_or nothing others solution (t.same_length ∙ sym solved.same_length)
          (λ a below. let within : a < length graph = subst (λ n. a < n) t.same_length below in
          agree (length graph) solution others a solved t within (no_long_walk a within)),
    )
