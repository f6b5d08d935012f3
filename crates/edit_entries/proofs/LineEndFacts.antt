-- A text in which each line feed has a carriage return before it.
use Rattle.std.proofs.Common.{◌≡◌, ℕ, List, [], ◌∷◌, ◌++◌, refl, sym, ap, ◌∙◌, append_assoc, append-nil}
use Rattle.std.specs.Prelude.{encode_utf8_all}
use Rattle.std.proofs.lemmas.Str.{encodes-append}
use Rattle.edit_entries.specs.LineEnds.{with_return, with_returns}

-- the last character of a list, or else one before it
abbrev pub last_of : ℕ → List ℕ → ℕ
last_of before [] = before
last_of before (c ∷ cs) = last_of c cs

pub last_push : (before : ℕ) (cs : List ℕ) (c : ℕ) → last_of before (cs ++ c ∷ []) ≡ c
last_push before [] c = refl
last_push before (d ∷ ds) c = last_push d ds c

returns_push : (before : ℕ) (cs : List ℕ) (c : ℕ)
    → with_returns before (cs ++ c ∷ []) ≡ with_returns before cs ++ with_return (last_of before cs) c
returns_push before [] c = append-nil (with_return before c)
returns_push before (d ∷ ds) c =
    ap (λ l. with_return before d ++ l) (returns_push d ds c)
    ∙ sym (append_assoc (with_return before d) (with_returns d ds) (with_return (last_of d ds) c))

pub encoded_push : (before : ℕ) (cs : List ℕ) (c : ℕ)
    → encode_utf8_all (with_returns before (cs ++ c ∷ []))
    ≡ encode_utf8_all (with_returns before cs) ++ encode_utf8_all (with_return (last_of before cs) c)
encoded_push before cs c =
    ap encode_utf8_all (returns_push before cs c) ∙ encodes-append (with_returns before cs) (with_return (last_of before cs) c)
