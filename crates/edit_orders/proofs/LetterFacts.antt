-- Facts about texts without the names of commands.
use Rattle.std.proofs.Common.{◌≡◌, ℕ, Bool, true, false, List, [], ◌∷◌, ◌++◌, cond, refl, ap, sym, ◌∙◌, append_assoc}
use Rattle.std.proofs.lemmas.List.{append-nil}
use Rattle.edit_orders.specs.Letters.{is_in_name, outside_names}

-- whether the last of some characters belongs to the name of a command; the flag says the same of the character before them
abbrev pub ends_in_name : Bool → List ℕ → Bool
ends_in_name before [] = before
ends_in_name before (c ∷ cs) = ends_in_name (is_in_name before c) cs

pub ends_push : (before : Bool) (cs : List ℕ) (c : ℕ) → ends_in_name before (cs ++ c ∷ []) ≡ is_in_name (ends_in_name before cs) c
ends_push before [] c = refl
ends_push before (d ∷ cs) c = ends_push (is_in_name before d) cs c

pub kept_push : (before : Bool) (cs : List ℕ) (c : ℕ) → outside_names before (cs ++ c ∷ [])
    ≡ outside_names before cs ++ cond (is_in_name (ends_in_name before cs) c) [] (c ∷ [])
kept_push before [] c = one (is_in_name before c) c
  where
    one : (b : Bool) (c : ℕ) → cond b [] (c ∷ []) ++ [] ≡ cond b [] (c ∷ [])
    one true c = refl
    one false c = refl
kept_push before (d ∷ cs) c =
    ap (λ l. cond (is_in_name before d) [] (d ∷ []) ++ l) (kept_push (is_in_name before d) cs c)
    ∙ sym (append_assoc (cond (is_in_name before d) [] (d ∷ [])) (outside_names (is_in_name before d) cs) _)

-- a character that belongs to the name of a command adds nothing to the characters outside of names
pub kept_skip : (cs : List ℕ) (c : ℕ) → is_in_name (ends_in_name false cs) c ≡ true
    → outside_names false (cs ++ c ∷ []) ≡ outside_names false cs
kept_skip cs c is =
    kept_push false cs c ∙ ap (λ b. outside_names false cs ++ cond b [] (c ∷ [])) is ∙ append-nil (outside_names false cs)

-- a character that doesn't belong to the name of a command is added to the characters outside of names
pub kept_take : (cs : List ℕ) (c : ℕ) → is_in_name (ends_in_name false cs) c ≡ false
    → outside_names false (cs ++ c ∷ []) ≡ outside_names false cs ++ c ∷ []
kept_take cs c is = kept_push false cs c ∙ ap (λ b. outside_names false cs ++ cond b [] (c ∷ [])) is
