-- Stacks: lists that grow and shrink at their end.
use Rattle.std.proofs.Common.{◌≡◌, List, [], ◌∷◌, ◌++◌, reverse, ap, ◌∙◌}
use Rattle.std.proofs.lemmas.List.{reverse-append}

-- the last element of a list is the first of the reversed list
pub reversed_push : {A : Type 0} (whole xs : List A) (x : A) → whole ≡ xs ++ x ∷ [] → reverse whole ≡ x ∷ reverse xs
reversed_push whole xs x is = ap reverse is ∙ reverse-append xs (x ∷ [])
