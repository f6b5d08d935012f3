-- Lengths of chains, computed index by index.
use Rattle.std.proofs.Common.{◌≡◌, ℕ, ◌+◌, ◌<◌, max, min, List, drop, get_or, length, map, sym, ap, ◌∙◌, arith}
use Rattle.std.proofs.lemmas.List.{drop_more}
use Rattle.edit_sort.specs.Ranks.{one_above}

-- before the first index, the greatest length so far is 0, which doesn't change the result
pub above_none : (n : ℕ) → max 0 n ≡ n
above_none n = omega arith

-- the greatest length so far, after one more index, gives the same result with the indices after it
pub above_more : (most : ℕ) (f : ℕ → ℕ) (indices : List ℕ) (i found next : ℕ) → i < length indices
    → next ≡ max found (min (f (get_or indices i 0) + 1) most)
    → max next (one_above most (map f (drop (i + 1) indices))) ≡ max found (one_above most (map f (drop i indices)))
above_more most f indices i found next within is =
    let rest = one_above most (map f (drop (i + 1) indices)) in
    let first = min (f (get_or indices i 0) + 1) most in
    let same : max next rest ≡ max found (max first rest) = omega (arith, is) in
    same ∙ ap (λ l. max found (one_above most (map f l))) (sym (drop_more indices i 0 within))

-- after the last index, the greatest length so far is the result
pub above_all : (found : ℕ) → max found 0 ≡ found
above_all found = omega arith
