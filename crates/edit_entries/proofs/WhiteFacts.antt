-- A text that is cut at the start of a suffix.
use Rattle.std.proofs.Common.{◌≡◌, ℕ, ◌-◌, ◌≤◌, List, length, drop, sym, ap, ◌∙◌, subst, arith, inl, inr, length-drop}
use Rattle.std.specs.Str.{IsUtf8, IsCharBoundary}
use Rattle.std.proofs.lemmas.Bool.{cases_lt}
use Rattle.std.proofs.lemmas.Str.{IsCharBoundary-end, IsCharBoundary-from_drop}

-- a text may be cut at the start of a suffix that is UTF-8
pub start_cut : (text rest : List ℕ) (n : ℕ) → rest ≡ drop n text → length rest ≤ length text → IsUtf8 rest
    → IsCharBoundary text (length text - length rest)
start_cut text rest n is small utf8 =
    let size : length rest ≡ length text - n = ap length is ∙ length-drop n text in
    elim (cases_lt n (length text)) [
      | inl before ↦
          let index : length text - length rest ≡ n = omega arith in
          subst (λ m. IsCharBoundary text m) (sym index) (IsCharBoundary-from_drop text n (omega arith) (subst IsUtf8 is utf8))
      | inr past ↦
          let index : length text - length rest ≡ length text = omega arith in
          subst (λ m. IsCharBoundary text m) (sym index) (IsCharBoundary-end text)
    ]
