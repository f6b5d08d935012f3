-- The solutions of two equations over graphs whose indices correspond: related rules have related values.
use Rattle.std.proofs.Common.{◌≡◌, ℕ, zero, suc, ◌<◌, List, [], ◌∷◌, length, get_or, map, refl, sym, ap, ◌∙◌, subst, arith}
use Rattle.std.specs.List.{AllZip, Contains}
use Rattle.std.proofs.lemmas.List.Elements.{Contains-append_right}
use Rattle.bib_collections.specs.Graph.{Graph, HasNoCycle, IsInRange, Solves, refs_of}
use Rattle.bib_collections.proofs.Walks.{HasWalk, below_from_edge, no_long_walk}

pub Contains-first : {A : Type 0} (x : A) (xs : List A) → Contains (x ∷ xs) x
Contains-first x xs = (0, omega arith, refl)

pub Contains-later : {A : Type 0} (x y : A) (xs : List A) → Contains xs y → Contains (x ∷ xs) y
Contains-later x y xs at = Contains-append_right (x ∷ []) xs y at

-- the values of corresponding references are related if those of each reference are
references_zip : {V : Type 0} (R : V → V → Type 0) (f g : ℕ → V) (move : ℕ → ℕ) (refs : List ℕ)
    → ((b : ℕ) → Contains refs b → R (f (move b)) (g b)) → AllZip R (map f (map move refs)) (map g refs)
references_zip R f g move [] all = tt
references_zip R f g move (b ∷ refs) all =
    (all b (Contains-first b refs), references_zip R f g move refs (λ c at. all c (Contains-later b c refs at)))

module _ (graph other : Graph) (in_range : IsInRange other) (move : ℕ → ℕ) {V : Type 0} (nothing : V) (rule rule' : ℕ → List V → V)
    (R : V → V → Type 0) (P : ℕ → Type 0) (within : (a : ℕ) → a < length other → move a < length graph)
    (refs : (a : ℕ) → a < length other → P a → refs_of graph (move a) ≡ map move (refs_of other a))
    (closed : (a b : ℕ) → P a → Contains (refs_of other a) b → P b)
    (steps : (a : ℕ) → a < length other → P a → (xs ys : List V) → AllZip R xs ys → R (rule (move a) xs) (rule' a ys)) where
  -- the values of corresponding indices are related if no walk of `k` references begins at the index in `other`
  related_by : (k : ℕ) (values others : List V) (a : ℕ) → Solves nothing rule graph values → Solves nothing rule' other others
      → a < length other → P a → (HasWalk other k a → ⊥) → R (get_or values (move a) nothing) (get_or others a nothing)
  related_by zero values others a s t below p none = absurd (none tt)
  related_by (suc k) values others a s t below p none =
      let old : ℕ → V = λ r. get_or values r nothing in
      let new : ℕ → V = λ r. get_or others r nothing in
      let solved : get_or values (move a) nothing ≡ rule (move a) (map old (map move (refs_of other a))) =
      s.each (move a) (within a below) ∙ ap (λ l. rule (move a) (map old l)) (refs a below p) in
      subst (λ x. R x (get_or others a nothing)) (sym solved)
      (subst (R (rule (move a) (map old (map move (refs_of other a))))) (sym (t.each a below))
      (steps a below p (map old (map move (refs_of other a))) (map new (refs_of other a))
      (references_zip R old new move (refs_of other a)
      (λ b at. related_by k values others b s t (below_from_edge other a b in_range below at) (closed a b p at) (λ w. none (b, at, w))))))

  pub related : HasNoCycle other → (values others : List V) (a : ℕ) → Solves nothing rule graph values → Solves nothing rule' other others
      → a < length other → P a → R (get_or values (move a) nothing) (get_or others a nothing)
  related none values others a s t below p =
      related_by (length other) values others a s t below p (no_long_walk other in_range none a below)
