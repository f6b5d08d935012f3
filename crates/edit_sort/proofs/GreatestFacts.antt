-- The greatest number up to a bound that passes a test.
use Rattle.std.proofs.Common.{◌≡◌, ◌⊎◌, inl, inr, ℕ, zero, suc, ◌+◌, ◌<◌, ◌≤◌, Bool, true, false, cond, max, min, refl, sym, ap, ◌∙◌, arith}
use Rattle.std.specs.Prelude.{◌||◌}
use Rattle.std.proofs.lemmas.Bool.{cases_lt, false≢true}
use Rattle.edit_sort.specs.Sorted.{greatest}

-- the greatest number is at most the bound
pub greatest_small : (test : ℕ → Bool) (n : ℕ) → greatest test n ≤ n
greatest_small test zero = omega arith
greatest_small test (suc n) = by_test (test (suc n)) (greatest_small test n)
  where
    by_test : (b : Bool) → greatest test n ≤ n → cond b (suc n) (greatest test n) ≤ suc n
    by_test true small = omega arith
    by_test false small = omega arith

-- the greatest number passes the test or is 0
pub greatest_passes : (test : ℕ → Bool) (n : ℕ) → (greatest test n ≡ 0) ⊎ (test (greatest test n) ≡ true)
greatest_passes test zero = inl refl
greatest_passes test (suc n) = by_test (test (suc n)) refl (greatest_passes test n)
  where
    by_test : (b : Bool) → test (suc n) ≡ b → (greatest test n ≡ 0) ⊎ (test (greatest test n) ≡ true)
        → (cond b (suc n) (greatest test n) ≡ 0) ⊎ (test (cond b (suc n) (greatest test n)) ≡ true)
    by_test true is rest = inr is
    by_test false is rest = rest

below_bound : (test : ℕ → Bool) (n k : ℕ) → k ≤ suc n → test k ≡ true → test (suc n) ≡ false → k ≤ n
below_bound test n k within passes fails =
    elim (cases_lt n k) [
      | inr fits ↦ fits
      | inl over ↦
          let same : suc n ≡ k = omega arith in
          absurd (false≢true (sym fails ∙ ap test same ∙ passes))
    ]

-- each number up to the bound that passes is at most the greatest
pub greatest_least : (test : ℕ → Bool) (n k : ℕ) → k ≤ n → test k ≡ true → k ≤ greatest test n
greatest_least test zero k within passes = within
greatest_least test (suc n) k within passes = by_test (test (suc n)) refl (λ fits. greatest_least test n k fits passes)
  where
    by_test : (b : Bool) → test (suc n) ≡ b → (k ≤ n → k ≤ greatest test n) → k ≤ cond b (suc n) (greatest test n)
    by_test true is below = within
    by_test false is below = below (below_bound test n k within passes is)

-- tests that agree have the same greatest number
pub greatest_same : (p q : ℕ → Bool) (n : ℕ) → ((k : ℕ) → p k ≡ q k) → greatest p n ≡ greatest q n
greatest_same p q zero same = refl
greatest_same p q (suc n) same =
    ap (λ b. cond b (suc n) (greatest p n)) (same (suc n)) ∙ ap (cond (q (suc n)) (suc n)) (greatest_same p q n same)

-- if no number from `m + 1` to `m + k` passes, the bound can be `m`
pub greatest_skip : (test : ℕ → Bool) (m k : ℕ) → ((j : ℕ) → m < j → j ≤ m + k → test j ≡ false) → greatest test (m + k) ≡ greatest test m
greatest_skip test m zero fails = (let same : m + 0 ≡ m = omega arith in ap (greatest test) same)
greatest_skip test m (suc k) fails =
    let next : m + suc k ≡ suc (m + k) = omega arith in
    ap (greatest test) next ∙ ap (λ b. cond b (suc (m + k)) (greatest test (m + k))) (fails (suc (m + k)) (omega arith) (omega arith))
    ∙ greatest_skip test m k (λ j above within. fails j above (omega arith))

-- if the bound passes, it is the greatest number
pub greatest_full : (test : ℕ → Bool) (n : ℕ) → test n ≡ true → greatest test n ≡ n
greatest_full test zero passes = refl
greatest_full test (suc n) passes = ap (λ b. cond b (suc n) (greatest test n)) passes

-- if no number except 0 passes, the greatest number is 0
pub greatest_none : (test : ℕ → Bool) (n : ℕ) → ((k : ℕ) → test (suc k) ≡ false) → greatest test n ≡ 0
greatest_none test zero fails = refl
greatest_none test (suc n) fails = ap (λ b. cond b (suc n) (greatest test n)) (fails n) ∙ greatest_none test n fails

either_step : (n g a d : ℕ) (b c : Bool) → g ≡ max a d → a ≤ n → d ≤ n
    → cond (b || c) (suc n) g ≡ max (cond b (suc n) a) (cond c (suc n) d)
either_step n g a d true true is small small' = omega arith
either_step n g a d true false is small small' = omega arith
either_step n g a d false true is small small' = omega arith
either_step n g a d false false is small small' = is

-- the greatest number that passes one of two tests is the greater of the greatest numbers for each
pub greatest_either : (p q : ℕ → Bool) (n : ℕ) → greatest (λ k. p k || q k) n ≡ max (greatest p n) (greatest q n)
greatest_either p q zero = omega arith
greatest_either p q (suc n) =
    either_step n (greatest (λ k. p k || q k) n) (greatest p n) (greatest q n) (p (suc n)) (q (suc n)) (greatest_either p q n)
    (greatest_small p n) (greatest_small q n)

-- whether a number is 0, or one more than a number that passes
abbrev pub one_after : (ℕ → Bool) → ℕ → Bool
one_after test zero = true
one_after test (suc n) = test n

after_step : (m g a : ℕ) (b : Bool) → g ≡ suc a → cond b (suc (suc m)) g ≡ suc (cond b (suc m) a)
after_step m g a true is = refl
after_step m g a false is = is

after_bound : (test : ℕ → Bool) (m : ℕ) → test 0 ≡ true → greatest (one_after test) (suc m) ≡ suc (greatest test m)
after_bound test zero first = ap (λ b. cond b 1 0) first
after_bound test (suc m) first =
    after_step m (greatest (one_after test) (suc m)) (greatest test m) (test (suc m)) (after_bound test m first)

-- one more than the greatest number that passes, but at most the bound, is the greatest number that passes `one_after`. The test must be
-- passed by 0, and by each number if the next one passes it.
pub greatest_after : (test : ℕ → Bool) (m : ℕ) → test 0 ≡ true → ((n : ℕ) → test (suc n) ≡ true → test n ≡ true)
    → greatest (one_after test) m ≡ min (greatest test m + 1) m
greatest_after test zero first closed = omega arith
greatest_after test (suc m) first closed =
    after_bound test m first ∙ by_test (test (suc m)) (λ passes. greatest_full test m (closed m passes)) refl (greatest_small test m)
  where
    by_test : (b : Bool) → (test (suc m) ≡ true → greatest test m ≡ m) → test (suc m) ≡ b → greatest test m ≤ m
        → suc (greatest test m) ≡ min (cond b (suc m) (greatest test m) + 1) (suc m)
    by_test true full is small = let whole = full is in omega arith
    by_test false full is small = omega arith
