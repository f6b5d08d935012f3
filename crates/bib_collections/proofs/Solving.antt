-- The equation is solved by computing the values in a topological order.
use Rattle.std.proofs.Common.{◌≡◌, ◌≢◌, ℕ, ◌+◌, ◌<◌, ◌≤◌, List, [], ◌∷◌, ◌++◌, cond, eqb, length, get_or, set, take, map, refl, sym, ap, ◌∙◌, subst, arith, inl, inr, ◌⊎◌, ⊎_elim, length-set, get_or-set_same, get_or-set_other}
use Rattle.std.specs.List.{All, Contains}
use Rattle.std.proofs.lemmas.List.{take_all, take_more, get_or_default, get_or-take, length-take-le}
use Rattle.std.proofs.lemmas.List.Elements.{All-contains, All-weaker, Contains-push, Contains-push_cases, Contains-append_left}
use Rattle.std.proofs.lemmas.Bool.{eq-eqb, lt-ltb, cases_lt, le-ltb}
use Rattle.bib_collections.specs.Graph.{refs_of, IsTopologicalOrder, Solves}
use Rattle.bib_collections.specs.Solving.{IsSolvedTo}
use Rattle.bib_collections.proofs.Order.{at_index, contains_from_count}
use Rattle.bib_collections.proofs.Walks.{map_agree}
use Rattle.bib_collections.proofs.Work.{as_one, times_from_contains}
use Rattle.std.proofs.lemmas.List.Sums.{sum_by-take-le, sum_by_more}

-- the index at `i` of a topological order isn't among the indices before `i`
pub new_turn : (graph : List (List ℕ)) (order : List ℕ) (i : ℕ) → IsTopologicalOrder graph order → i < length order
    → Contains (take i order) (get_or order i 0) → ⊥
new_turn graph order i h within there =
    let p : ℕ = get_or order i 0 in
    let before = times_from_contains p (take i order) there in
    let more = sum_by_more (λ t. cond (eqb t p) 1 0) order i 0 within in
    let here = as_one _ _ (eq-eqb p p refl) in
    let all = sum_by-take-le (λ t. cond (eqb t p) 1 0) order (i + 1) in
    elim (cases_lt p (length graph)) [
      | inl t ↦ omega (arith, before, more, here, all, h.once p, as_one _ _ (lt-ltb p (length graph) t))
      | inr t ↦ omega (arith, before, more, here, all, h.once p, as_one _ _ (le-ltb p (length graph) t))
    ]

-- the index at `m` is among the first `i` indices of an order if `m` is less than `i`
among_first : (order : List ℕ) (i m r : ℕ) → m < i → i ≤ length order → get_or order m 0 ≡ r → Contains (take i order) r
among_first order i m r below within at =
    (m, omega (arith, length-take-le i order within), get_or-take i order m r below ∙ get_or_default order m r 0 (omega arith) ∙ at)

-- the references of an index among the first `i` of an order are also among the first `i`
earlier_refs : (graph : List (List ℕ)) (order : List ℕ) (i q : ℕ) → IsTopologicalOrder graph order → i < length order
    → Contains (take i order) q → All (Contains (take i order)) (refs_of graph q)
earlier_refs graph order i q h within there =
    let j = at_index order i q within there in
    let all = subst (λ x. All (Contains (take j.0 order)) (refs_of graph x)) j.2 (h.in_order j.0 (omega arith)) in
    All-weaker (Contains (take j.0 order)) (Contains (take i order))
    (λ r c. let m = at_index order j.0 r (omega arith) c in among_first order i m.0 r (omega arith) (omega arith) m.2)
    (refs_of graph q) all

module _ {V : Type 0} (none : V) (rule : ℕ → List V → V) (graph : List (List ℕ)) (order : List ℕ) (start : List V) where
  -- before the first index all values are those of the start
  pub solved_none : IsSolvedTo none rule graph order start 0 start
  solved_none = record {
    same_length = refl;
    solved = λ p h. absurd (omega (arith, h.1));
    kept = λ p h. refl;
  }

  -- the index at `i` of the order gets the value of the rule, and the values before it stay solved
  pub solved_more : (i : ℕ) (values : List V) (value : V) → IsTopologicalOrder graph order → i < length order
      → get_or order i 0 < length values
      → value ≡ rule (get_or order i 0) (map (λ r. get_or values r none) (refs_of graph (get_or order i 0)))
      → IsSolvedTo none rule graph order start i values
      → IsSolvedTo none rule graph order start (i + 1) (set values (get_or order i 0) value)
  solved_more i values value sorted within below is h =
      let p : ℕ = get_or order i 0 in
      let Earlier : ℕ → Type 0 = Contains (take i order) in
      let fresh : Earlier p → ⊥ = new_turn graph order i sorted within in
      let other : (q : ℕ) → Earlier q → q ≢ p = λ q c e. fresh (subst Earlier e c) in
      let new : List V = set values p value in
      let same : (q : ℕ) → All Earlier (refs_of graph q)
      → map (λ r. get_or values r none) (refs_of graph q) ≡ map (λ r. get_or new r none) (refs_of graph q)
      = λ q all. map_agree (λ r. get_or values r none) (λ r. get_or new r none) (refs_of graph q)
      (λ r e. sym (get_or-set_other values p r value none (other r (All-contains Earlier (refs_of graph q) r all e)))) in
      let cases : (q : ℕ) → Contains (take (i + 1) order) q → Earlier q ⊎ (p ≡ q) =
      λ q c. Contains-push_cases (take i order) p q (subst (λ l. Contains l q) (take_more order i 0 within) c) in
      record {
        same_length = length-set values p value ∙ h.same_length;
        solved = λ q c. ⊎_elim
            (λ e.
            get_or-set_other values p q value none (other q e) ∙ h.solved q e
            ∙ ap (rule q) (same q (earlier_refs graph order i q sorted within e)))
            (λ e. subst (λ x. get_or new x none ≡ rule x (map (λ r. get_or new r none) (refs_of graph x))) e
            (get_or-set_same values p value none below ∙ is ∙ ap (rule p) (same p (sorted.in_order i within))))
            (cases q c);
        kept = λ q no.
            get_or-set_other values p q value none
            (λ e.
            no
            (subst (λ l. Contains l q) (sym (take_more order i 0 within))
            (subst (Contains (take i order ++ p ∷ [])) (sym e) (Contains-push (take i order) p))))
            ∙ h.kept q
            (λ c.
            no
            (subst (λ l. Contains l q) (sym (take_more order i 0 within))
            (Contains-append_left (take i order) (p ∷ []) q c)));
      }

  -- after the last index of the order, the equation is solved
  pub solved_all : (values : List V) → IsTopologicalOrder graph order → length start ≡ length graph
      → IsSolvedTo none rule graph order start (length order) values → Solves none rule graph values
  solved_all values sorted len h = record {
    same_length = h.same_length ∙ len;
    each = λ p within. h.solved p (subst (λ l. Contains l p) (sym (take_all (length order) order (omega arith)))
        (contains_from_count p order (omega (arith, sorted.once p, as_one _ _ (lt-ltb p (length graph) within)))));
  }
