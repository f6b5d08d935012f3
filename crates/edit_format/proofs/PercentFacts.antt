-- A test whether a text contains a byte is `list_any`.
use Rattle.std.proofs.Common.{◌≡◌, ℕ, zero, suc, ◌<◌, Bool, true, false, List, [], ◌∷◌, length, get_or, refl, sym, ap, ◌∙◌, arith}
use Rattle.std.specs.Prelude.{◌==◌, ◌||◌}
use Rattle.std.specs.List.{list_any}
use Rattle.std.proofs.lemmas.Bool.{eq-eqb, ne_eqb, or_right}

some_passes : (p : ℕ → Bool) (bs : List ℕ) (k : ℕ) → k < length bs → p (get_or bs k 0) ≡ true → list_any p bs ≡ true
some_passes p [] k within is = absurd (omega arith)
some_passes p (b ∷ bs) zero within is = ap (λ x. x || list_any p bs) is
some_passes p (b ∷ bs) (suc k) within is = or_right (p b) (list_any p bs) (some_passes p bs k (omega arith) is)

none_passes : (c : ℕ) (bs : List ℕ) → ((k : ℕ) → k < length bs → get_or bs k 0 ≡ c → ⊥) → list_any (λ b. b == c) bs ≡ false
none_passes c [] none = refl
none_passes c (b ∷ bs) none =
    ap (λ x. x || list_any (λ d. d == c) bs) (ne_eqb b c (λ same. none 0 (omega arith) same))
    ∙ none_passes c bs (λ k within same. none (suc k) (omega arith) same)

pub stands_among : (c : ℕ) (bs : List ℕ) (r : Bool)
    → (r ≡ true → (k : ℕ) × (k < length bs) × (get_or bs k 0 ≡ c))
    × ((k : ℕ) → k < length bs → get_or bs k 0 ≡ c → r ≡ true) → r ≡ list_any (λ b. b == c) bs
stands_among c bs true found =
    let at = found.0 refl in
    sym (some_passes (λ b. b == c) bs at.0 at.1 (eq-eqb (get_or bs at.0 0) c at.2))
stands_among c bs false found = sym (none_passes c bs (λ k within same. let clash : false ≡ true = found.1 k within same in absurd (cc)))
