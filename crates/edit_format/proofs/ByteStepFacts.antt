-- Tests of bytes: one byte in a loop.
use Rattle.std.proofs.Common.{◌≡◌, ℕ, Bool, true, false, List, ◌∷◌, sym, ap, ◌∙◌}
use Rattle.edit_format.specs.Delimited.{hide_quotes}
use Rattle.edit_format.proofs.DelimiterFacts.{other_sign}

pub hidden_sign : (h h' : Bool) (b : ℕ) (bs : List ℕ) → h ≡ true → h' ≡ false → hide_quotes h (b ∷ bs) ≡ hide_quotes h' bs
hidden_sign h h' b bs was is = ap (λ x. hide_quotes x (b ∷ bs)) was ∙ ap (λ x. hide_quotes x bs) (sym is)

pub slash_sign : (h h' : Bool) (b : ℕ) (bs : List ℕ) → h ≡ false → b ≡ 92 → h' ≡ true → hide_quotes h (b ∷ bs) ≡ hide_quotes h' bs
slash_sign h h' b bs was slash is =
    ap (λ x. hide_quotes x (b ∷ bs)) was ∙ ap (λ c. hide_quotes false (c ∷ bs)) slash
    ∙ ap (λ x. hide_quotes x bs) (sym is)

pub plain_sign : (h h' : Bool) (b : ℕ) (bs : List ℕ) → h ≡ false → (b ≡ 92 → ⊥) → (b ≡ 34 → ⊥) → h' ≡ h
    → hide_quotes h (b ∷ bs) ≡ hide_quotes h' bs
plain_sign h h' b bs was no_slash no_quote is =
    ap (λ x. hide_quotes x (b ∷ bs)) was ∙ other_sign b bs no_slash no_quote
    ∙ ap (λ x. hide_quotes x bs) (sym (is ∙ was))
