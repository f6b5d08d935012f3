-- Facts about line ends.
use Rattle.std.proofs.Common.{◌≡◌, ℕ, Bool, List, [], ◌∷◌, ◌++◌, refl, ap, sym, ◌∙◌, append_assoc}
use Rattle.std.specs.Prelude.{◌==◌}
use Rattle.std.proofs.lemmas.List.{append-nil}
use Rattle.bib_text.specs.Characters as char
use Rattle.bib_recode.specs.LineEnds.{ended_after, ended_bytes}
use Rattle.bib_recode.specs.declared.line_ends.LineEnds.{LineEnds}

-- whether the last of some characters is a carriage return; if there are none, the flag, which says the same of the character before them
abbrev pub ends_in_return : Bool → List ℕ → Bool
ends_in_return before [] = before
ends_in_return before (c ∷ cs) = ends_in_return (c == char.carriage_return) cs

pub return_push : (before : Bool) (cs : List ℕ) (c : ℕ) → ends_in_return before (cs ++ c ∷ []) ≡ (c == char.carriage_return)
return_push before [] c = refl
return_push before (d ∷ cs) c = return_push (d == char.carriage_return) cs c

pub ended_push : (ends : LineEnds) (before : Bool) (cs : List ℕ) (c : ℕ) → ended_after ends before (cs ++ c ∷ [])
    ≡ ended_after ends before cs ++ ended_bytes ends (ends_in_return before cs) c
ended_push ends before [] c = append-nil (ended_bytes ends before c)
ended_push ends before (d ∷ cs) c =
    ap (λ l. ended_bytes ends before d ++ l) (ended_push ends (d == char.carriage_return) cs c)
    ∙ sym (append_assoc (ended_bytes ends before d) (ended_after ends (d == char.carriage_return) cs) _)
