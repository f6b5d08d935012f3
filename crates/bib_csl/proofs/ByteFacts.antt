-- Characters whose bytes all pass a test.
use Rattle.std.proofs.Common.{◌≡◌, ◌==◌, ◌||◌, ℕ, Bool, true, false, true≢false, List, ◌∷◌, refl, sym, ap, ◌∙◌, arith}
use lib.Utf8.{encode, encodes}
use Rattle.std.specs.List.{list_all}
use Rattle.std.proofs.lemmas.Bool.{and_parts, false_from_ne_true}
use Rattle.std.proofs.lemmas.List.Folds.{list_all-append}

-- a character whose bytes all pass differs from one with a byte that fails
pub not_this : (p : ℕ → Bool) (k c : ℕ) → list_all p (encode k) ≡ false → list_all p (encode c) ≡ true → (c == k) ≡ false
not_this p k c bad good =
    false_from_ne_true (c == k)
    (λ same. let is : c ≡ k = grind arith in true≢false (sym good ∙ ap (λ x. list_all p (encode x)) is ∙ bad))

-- if all bytes of characters pass, so do those of the first one and those of the others
pub both : (p : ℕ → Bool) (c : ℕ) (cs : List ℕ) → list_all p (encodes (c ∷ cs)) ≡ true
    → (list_all p (encode c) ≡ true) × (list_all p (encodes cs) ≡ true)
both p c cs h = and_parts (list_all p (encode c)) (list_all p (encodes cs)) (sym (list_all-append p (encode c) (encodes cs)) ∙ h)

-- six tests joined from the left pass exactly if they do joined from the right
any_of_six : (a b c d e f : Bool) → (((((a || b) || c) || d) || e) || f) ≡ (a || (b || (c || (d || (e || (f || false))))))
any_of_six true b c d e f = refl
any_of_six false true c d e f = refl
any_of_six false false true d e f = refl
any_of_six false false false true e f = refl
any_of_six false false false false true f = refl
any_of_six false false false false false true = refl
any_of_six false false false false false false = refl

pub same_six : (a b c d e f u v w x y z : Bool) → a ≡ u → b ≡ v → c ≡ w → d ≡ x → e ≡ y → f ≡ z
    → (((((a || b) || c) || d) || e) || f) ≡ (u || (v || (w || (x || (y || (z || false))))))
same_six a b c d e f u v w x y z first second third fourth fifth sixth =
    rw first (rw second (rw third (rw fourth (rw fifth (rw sixth (any_of_six u v w x y z))))))
