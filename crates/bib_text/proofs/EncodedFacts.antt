-- The bytes of a character.
use Rattle.std.proofs.Common.{◌≡◌, inl, inr, ℕ, ◌+◌, ◌/◌, ◌<◌, ◌≤◌, Bool, true, false, cond, List, [], ◌∷◌, refl, sym, subst, ltb, arith}
use Rattle.std.specs.Prelude.{encode_utf8}
use Rattle.std.specs.List.{AllByRecursion}
use lib.Utf8.{encode, next}
use Rattle.std.proofs.lemmas.Bool.{cases_lt, ltb-true}
use Rattle.std.proofs.lemmas.Str.{encode_ascii}

-- the bytes of a character are itself, or bytes that aren't ASCII
pub data Encoded (c : ℕ) : List ℕ → Type 0 where
  one : c < 128 → Encoded c (c ∷ [])
  wide : {b : ℕ} {bs : List ℕ} → 128 ≤ c → AllByRecursion (λ x. 128 ≤ x) (b ∷ bs) → Encoded c (b ∷ bs)

by_width : (x y z : Bool) (c i j k n m l : ℕ) → 128 ≤ c → (x ≡ true → ⊥)
    → Encoded c
    (cond x (c ∷ [])
    (cond y ((192 + i) ∷ next n ∷ [])
    (cond z ((224 + j) ∷ next m ∷ next n ∷ []) ((240 + k) ∷ next l ∷ next m ∷ next n ∷ []))))
by_width true y z c i j k n m l large other = absurd (other refl)
by_width false true z c i j k n m l large other = Encoded.wide large (omega arith, (omega arith, _))
by_width false false true c i j k n m l large other = Encoded.wide large (omega arith, (omega arith, (omega arith, _)))
by_width false false false c i j k n m l large other = Encoded.wide large (omega arith, (omega arith, (omega arith, (omega arith, _))))

wide_encoded : (c : ℕ) → 128 ≤ c → Encoded c (encode_utf8 c)
unfolding encode
wide_encoded c large =
    by_width (ltb c 128) (ltb c 2048) (ltb c 65536) c (c / 64) (c / 4096) (c / 262144) c (c / 64) (c / 4096) large
    (λ is. omega (arith, ltb-true c 128 is, large))

pub encoded : (c : ℕ) → Encoded c (encode_utf8 c)
encoded c =
    elim (cases_lt c 128) [
      | inl below ↦ subst (Encoded c) (sym (encode_ascii c below)) (Encoded.one below)
      | inr from ↦ wide_encoded c from
    ]
