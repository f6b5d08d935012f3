-- The index from which an element comes when lists are permuted by swaps.
use Rattle.std.proofs.Common.{◌≡◌, ℕ, ◌<◌, List, [], ◌∷◌, cond, eqb, set, get_or, length, length-set, get_or-set_other, get_or-set_same, refl, sym, ap, ◌∙◌, subst, inl, inr}
use Rattle.std.specs.List.{swap}
use Rattle.std.specs.List.Sorted.{SwapsInRange, apply_swaps}
use Rattle.std.proofs.lemmas.Bool.Decides.{eqb_tells}
use Rattle.std.proofs.lemmas.List.Edits.{length-swap, swap_is}

-- the old index of the element that is at the index `n` after two elements are swapped
abbrev pub swapped_index : ℕ → ℕ → ℕ → ℕ
swapped_index i j n = cond (eqb n j) i (cond (eqb n i) j n)

-- the old index of the element that is at the index `n` after swaps
abbrev pub before_swaps : List (ℕ × ℕ) → ℕ → ℕ
before_swaps [] n = n
before_swaps (p ∷ ps) n = before_swaps ps (swapped_index p.0 p.1 n)

-- the index after swaps of the element that was at the index `n`
abbrev pub after_swaps : List (ℕ × ℕ) → ℕ → ℕ
after_swaps [] n = n
after_swaps (p ∷ ps) n = swapped_index p.0 p.1 (after_swaps ps n)

both_tests : (i j n : ℕ) (P : ℕ → Type 0) → (n ≡ j → P i) → ((n ≡ j → ⊥) → n ≡ i → P j) → ((n ≡ j → ⊥) → (n ≡ i → ⊥) → P n)
    → P (swapped_index i j n)
both_tests i j n P at_j at_i other = elim (eqb_tells n j) [
  | inl t ↦ subst (λ b. P (cond b i (cond (eqb n i) j n))) (sym t.0) (at_j t.1)
  | inr t ↦ subst (λ b. P (cond b i (cond (eqb n i) j n))) (sym t.0) (elim (eqb_tells n i) [
    | inl u ↦ subst (λ b. P (cond b j n)) (sym u.0) (at_i t.1 u.1)
    | inr u ↦ subst (λ b. P (cond b j n)) (sym u.0) (other t.1 u.1)
  ])
]

swapped_within : (i j n size : ℕ) → i < size → j < size → n < size → swapped_index i j n < size
swapped_within i j n size a b c = both_tests i j n (λ m. m < size) (λ e. a) (λ e f. b) (λ e f. c)

swapped_back : (i j n : ℕ) → swapped_index i j (swapped_index i j n) ≡ n
swapped_back i j n =
    both_tests i j n (λ m. swapped_index i j m ≡ n)
    (λ e. both_tests i j i (λ m. m ≡ n) (λ f. f ∙ sym e) (λ f g. sym e) (λ f g. absurd (g refl)))
    (λ e f. both_tests i j j (λ m. m ≡ n) (λ g. sym f) (λ g h. absurd (g refl)) (λ g h. absurd (g refl)))
    (λ e f. both_tests i j n (λ m. m ≡ n) (λ g. absurd (e g)) (λ g h. absurd (f h)) (λ g h. refl))

module _ {X : Type 0} where
  pub length_swaps : (xs : List X) (ps : List (ℕ × ℕ)) → length (apply_swaps xs ps) ≡ length xs
  length_swaps xs [] = refl
  length_swaps xs (p ∷ ps) = length-swap (apply_swaps xs ps) p.0 p.1 ∙ length_swaps xs ps

  get_swap : (xs : List X) (i j n : ℕ) (d : X) → i < length xs → j < length xs
      → get_or (swap xs i j) n d ≡ get_or xs (swapped_index i j n) d
  get_swap xs i j n d a b =
      let once : List X = set xs i (get_or xs j d) in
      ap (λ l. get_or l n d) (sym (swap_is xs i j d a b))
      ∙ both_tests i j n (λ m. get_or (set once j (get_or xs i d)) n d ≡ get_or xs m d)
      (λ e.
      ap (λ m. get_or (set once j (get_or xs i d)) m d) e
      ∙ get_or-set_same once j (get_or xs i d) d (subst (λ m. j < m) (sym (length-set xs i (get_or xs j d))) b))
      (λ e f.
      get_or-set_other once j n (get_or xs i d) d e ∙ ap (λ m. get_or once m d) f ∙ get_or-set_same xs i (get_or xs j d) d a)
      (λ e f. get_or-set_other once j n (get_or xs i d) d e ∙ get_or-set_other xs i n (get_or xs j d) d f)

  -- after swaps of indices in range, the element at an index is the one that was at its old index
  pub get_swaps : (xs : List X) (ps : List (ℕ × ℕ)) (n : ℕ) (d : X) → SwapsInRange (length xs) ps
      → get_or (apply_swaps xs ps) n d ≡ get_or xs (before_swaps ps n) d
  get_swaps xs [] n d below = refl
  get_swaps xs (p ∷ ps) n d below =
      get_swap (apply_swaps xs ps) p.0 p.1 n d (subst (λ m. p.0 < m) (sym (length_swaps xs ps)) below.0)
      (subst (λ m. p.1 < m) (sym (length_swaps xs ps)) below.1)
      ∙ get_swaps xs ps (swapped_index p.0 p.1 n) d below.2

pub before_within : (ps : List (ℕ × ℕ)) (n size : ℕ) → SwapsInRange size ps → n < size → before_swaps ps n < size
before_within [] n size below within = within
before_within (p ∷ ps) n size below within =
    before_within ps (swapped_index p.0 p.1 n) size below.2 (swapped_within p.0 p.1 n size below.0 below.1 within)

pub after_within : (ps : List (ℕ × ℕ)) (n size : ℕ) → SwapsInRange size ps → n < size → after_swaps ps n < size
after_within [] n size below within = within
after_within (p ∷ ps) n size below within =
    swapped_within p.0 p.1 (after_swaps ps n) size below.0 below.1 (after_within ps n size below.2 within)

pub before_after : (ps : List (ℕ × ℕ)) (n : ℕ) → before_swaps ps (after_swaps ps n) ≡ n
before_after [] n = refl
before_after (p ∷ ps) n = ap (before_swaps ps) (swapped_back p.0 p.1 (after_swaps ps n)) ∙ before_after ps n

pub after_before : (ps : List (ℕ × ℕ)) (n : ℕ) → after_swaps ps (before_swaps ps n) ≡ n
after_before [] n = refl
after_before (p ∷ ps) n =
    ap (swapped_index p.0 p.1) (after_before ps (swapped_index p.0 p.1 n)) ∙ swapped_back p.0 p.1 n
