-- Facts on messages.
use Rattle.std.proofs.Common.{◌≡◌, ℕ, List, Result, subst}
use Rattle.std.specs.Prelude.{IfOk, String, string_bytes}
use Rattle.std.specs.declared.alloc.AllocError.{AllocError}
use Rattle.bib_source.specs.declared.positions.Position.{Position}
use Rattle.bibkit_commands.specs.Messages.{line_of_error}

-- the line of an error with an equal position and an equal text
pub same_error : {A : Type 0} (r : Result (String A) AllocError) (name : List ℕ) (place here : Position) (text said : List ℕ)
    → place ≡ here → text ≡ said
    → IfOk r (λ line. string_bytes line ≡ line_of_error name place text) → IfOk r (λ line. string_bytes line ≡ line_of_error name here said)
same_error r name place here text said moved same is =
    subst (λ place. IfOk r (λ line. string_bytes line ≡ line_of_error name place said)) moved
    (subst (λ text. IfOk r (λ line. string_bytes line ≡ line_of_error name place text)) same is)
