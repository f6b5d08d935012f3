-- Facts about texts.
use Rattle.std.proofs.Common.{◌≡◌, ℕ, List, [], ◌∷◌, length, true, refl, sym, arith}
use Rattle.std.specs.Prelude.{bytes_eq}
use Rattle.std.specs.Str.{chars}
use Rattle.std.specs.Bool.{one_answer}
use Rattle.std.proofs.lemmas.Slice.Eq.{bytes_eq-Decides}
use Rattle.std.proofs.lemmas.Str.{chars-nil}

-- texts that pass `bytes_eq` are equal
pub bytes_same : (one other : List ℕ) → bytes_eq one other ≡ true → one ≡ other
bytes_same one other = (bytes_eq-Decides one other).0

-- a text equals itself
pub bytes_itself : (text : List ℕ) → bytes_eq text text ≡ true
bytes_itself text = (bytes_eq-Decides text text).1 refl

-- equality of texts is symmetric
pub bytes_turned : (one other : List ℕ) → bytes_eq one other ≡ bytes_eq other one
bytes_turned one other =
    one_answer (bytes_eq one other) (bytes_eq other one) (bytes_eq-Decides one other)
    (λ e. sym ((bytes_eq-Decides other one).0 e), λ e. (bytes_eq-Decides other one).1 (sym e))

-- an empty text has no characters
pub chars_empty : (bs : List ℕ) → length bs ≡ 0 → chars bs ≡ []
chars_empty [] none = chars-nil
chars_empty (b ∷ bs) none = absurd (omega arith)
