-- Facts about the end of a call, from its result or its error.
use Rattle.std.proofs.Common.{◌≡◌, ◌≤◌, ◌++◌, ℕ, List, length, drop, Result, Ok, Err, IfOk, IfErr, IsOkAnd, IsErrAnd, String, Global, refl, sym, subst}
use Rattle.std.specs.String.{string_bytes}
use Rattle.biblatex_c.specs.Calls.{IsEnd}
use Rattle.biblatex_c.specs.Calls.IsEnd.{done, too_short, failed}
use Rattle.biblatex_c.specs.declared.status.Status.{Status}
use Rattle.biblatex_c.specs.declared.status.Status.TheVariants.{Done}

-- the end of a call is also one that allows weaker results and failures
pub end_else : {A B : List ℕ → Type 0} {F G : Status → Type 0} {out out' : List ℕ} {size size' : ℕ} {status : Status}
    → ((answer : List ℕ) → A answer → B answer) → ((why : Status) → F why → G why)
    → IsEnd A F out size out' size' status → IsEnd B G out size out' size' status
end_else f g (done is fits) = done (f _ is) fits
end_else f g (too_short is short) = too_short (f _ is) short
end_else f g (failed why) = failed (g _ why)

-- if a result fits into the buffer, the call that writes it to the start of the buffer is done
pub written_answer : {answer bytes out : List ℕ} {size : ℕ} → bytes ≡ answer → length answer ≤ length out
    → IsEnd (λ bytes. bytes ≡ answer) (λ _. ⊥) out size (bytes ++ drop (length answer) out) (length answer) Done
written_answer is fits = rw is (done refl fits)

-- if the result of `made` meets `A`, or its error meets `F`, the end of a call with `made` is an end with `A` and `F`
pub end_of : {A : List ℕ → Type 0} {F : Status → Type 0} {out out' : List ℕ} {size size' : ℕ} {status : Status}
    (made : Result (String Global) Status)
    → IfOk made (λ answer. A (string_bytes answer)) → IfErr made F
    → IsEnd (λ bytes. IsOkAnd made (λ answer. bytes ≡ string_bytes answer))
    (λ why. IsErrAnd made (λ error. error ≡ why)) out size out' size' status
    → IsEnd A F out size out' size' status
end_of {A} {F} (Ok text) answers fails end = end_else (λ bytes is. subst A (sym is) answers) (λ why none. absurd none) end
end_of {A} {F} (Err error) answers fails end = end_else (λ bytes none. absurd none) (λ why is. subst F is fails) end
