-- Texts without the characters that don't stay in a key.
use Rattle.std.proofs.Common.{◌≡◌, ℕ, suc, zero, ◌+◌, ◌<◌, true, cond, List, [], ◌∷◌, ◌++◌, length, drop, get_or, sym, ◌∙◌, ap, subst, arith, refl, add-one, append_assoc}
use Rattle.std.specs.Prelude.{encode_utf8}
use Rattle.std.proofs.lemmas.Str.{encode_ascii}
use Rattle.std.proofs.lemmas.Bool.{and_parts}
use Rattle.bib_keys.specs.Bases.{cleaned_after, is_kept}
use Rattle.bib_keys.specs.Characters.{is_in_keys}
use Rattle.bib_keys.proofs.PatternFacts.{in_keys_ascii}

-- the rest of a list from an index on is the element at the index and those after it
rest_from : (l : List ℕ) (i d : ℕ) → i < length l → drop i l ≡ get_or l i d ∷ drop (i + 1) l
rest_from l i d within = rw (add-one) (of l i within) where
  of : (l : List ℕ) (k : ℕ) → k < length l → drop k l ≡ get_or l k d ∷ drop (suc k) l
  of [] k h = absurd (omega arith)
  of (c ∷ l) zero h = refl
  of (c ∷ l) (suc k) h = of l k (omega arith)

-- a character that stays is appended, and becomes the last one before the rest of the text
pub kept : (last i : ℕ) (bytes text out longer : List ℕ) → bytes ≡ text → i < length bytes → is_kept last (get_or bytes i 0) ≡ true
    → longer ≡ out ++ encode_utf8 (get_or bytes i 0)
    → out ++ cleaned_after last (drop i text) ≡ longer ++ cleaned_after (get_or bytes i 0) (drop (i + 1) text)
kept last i bytes text out longer same within stays pushed =
    let c : ℕ = get_or bytes i 0 in
    let after : List ℕ = cleaned_after c (drop (i + 1) bytes) in
    let ascii = encode_ascii c (in_keys_ascii c (and_parts (is_in_keys c) _ stays).0) in
    subst (λ l. out ++ cleaned_after last (drop i l) ≡ longer ++ cleaned_after c (drop (i + 1) l)) same
    (ap (λ l. out ++ cleaned_after last l) (rest_from bytes i 0 within)
    ∙ ap (λ b. out ++ cond b (c ∷ after) (cleaned_after last (drop (i + 1) bytes))) stays ∙ sym (append_assoc out (c ∷ []) after)
    ∙ ap (λ l. l ++ after) (sym (pushed ∙ ap (λ l. out ++ l) ascii)))
