-- The bytes in the path of a URI.
use Rattle.std.proofs.Common.{◌≡◌, ◌<◌, ◌++◌, ◌∷◌, [], ℕ, List, true, Result, Ok, Err, OnOk, ap, ◌∙◌, arith, cond, sym}
use Rattle.std.proofs.lemmas.Bool.Decides.{nat_tests}
use Rattle.std.specs.Prelude.{encode_utf8, if◌then◌else◌}
use Rattle.std.specs.Result.{is_ok}
use Rattle.bibkit_core.specs.Uris.{is_path_byte, path_byte, percent_encoded}

-- a byte that is kept is ASCII
pub kept_small : (b : ℕ) → is_path_byte b ≡ true → b < 128
kept_small b is = grind (arith, nat_tests, is)

-- a byte that is kept is appended as it is
pub kept_appended : {E : Type 0} (r : Result (Unit {0}) E) (old new : List ℕ) (b : ℕ) → is_path_byte b ≡ true
    → new ≡ (if is_ok r then old ++ encode_utf8 b else old) → (b < 128 → encode_utf8 b ≡ b ∷ [])
    → OnOk r (new ≡ old ++ path_byte b)
kept_appended (Ok u) old new b is appended ascii =
    appended ∙ ap (λ t. old ++ t) (ascii (kept_small b is) ∙ sym (ap (λ p. cond p (b ∷ []) (percent_encoded b)) is))
kept_appended (Err e) old new b is appended ascii = tt
