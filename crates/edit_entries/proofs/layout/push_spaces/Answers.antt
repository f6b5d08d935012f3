use Rattle.std.proofs.Common.{◌≡◌, ◌+◌, ◌++◌, ◌∷◌, [], ℕ, zero, suc, refl, sym, ap, ◌∙◌, arith, append_assoc}
use Rattle.std.specs.Prelude.{replicate}
use Rattle.std.specs.String.{string_bytes}
use Rattle.edit_entries.proofs.layout.push_spaces.Goals as goal

one_more : (n : ℕ) → replicate {A = ℕ} (n + 1) 32 ≡ replicate n 32 ++ 32 ∷ []
one_more zero = refl
one_more (suc n) =
    let next : suc n + 1 ≡ suc (n + 1) = omega arith in
    ap (λ m. replicate {A = ℕ} m 32) next ∙ ap (λ l. 32 ∷ l) (one_more n)

pub spaces-preserved : goal.spaces-preserved
unfolding lib.Utf8.encode
spaces-preserved c =
    let out = string_bytes c.args.out.now in
    c.in_ok-push.ensures.bytes ∙ ap (λ t. t ++ 32 ∷ []) c.spaces.invariant
    ∙ append_assoc out (replicate c.spaces.counter 32) (32 ∷ []) ∙ ap (λ l. out ++ l) (sym (one_more c.spaces.counter))

pub returns : goal.returns
returns c =
    let all : c.spaces.counter ≡ c.args.count = omega (arith, c.spaces.auto.counter-end, c.spaces-test.false) in
    c.spaces.invariant ∙ ap (λ n. string_bytes c.args.out.now ++ replicate n 32) all
