-- Facts on the first and the last item of a list that pass a test.
use Rattle.std.proofs.Common.{◌≡◌, Bool, true, false, List, [], ◌∷◌, map, Option, Some, None, refl, sym, ap, ◌∙◌, cond}
use Rattle.std.specs.Prelude.{reverse, option_map}
use mathlib.Core.List.{reverse_aux}
use Rattle.std.specs.List.{find}
use denote.Ref.{Bor}

-- the first mapped item that passes a test comes from the first item whose mapped item passes it
pub find_of_map : {A B : Type 0} (f : A → B) (p : B → Bool) (items : List A)
    → find p (map f items) ≡ option_map f (find (λ item. p (f item)) items)
find_of_map f p [] = refl
find_of_map f p (item ∷ items) =
    ap (cond (p (f item)) (Some (f item))) (find_of_map f p items)
    ∙ elim (p (f item)) as
    (λ passes.
    cond passes (Some (f item)) (option_map f (find (λ i. p (f i)) items))
    ≡ option_map f (cond passes (Some item) (find (λ i. p (f i)) items))) [ true ↦ refl | false ↦ refl ]

reversed_onto : {A B : Type 0} (f : A → B) (items onto : List A) → reverse_aux (map f items) (map f onto) ≡ map f (reverse_aux items onto)
reversed_onto f [] onto = refl
reversed_onto f (item ∷ items) onto = reversed_onto f items (item ∷ onto)

twice : {A B : Type 0} (f : A → B) (found : Option (Bor A))
    → option_map (λ item. f item.now) found ≡ option_map f (option_map (λ item. item.now) found)
twice f None = refl
twice f (Some item) = refl

pub reverse_of_map : {A B : Type 0} (f : A → B) (items : List A) → reverse (map f items) ≡ map f (reverse items)
reverse_of_map f items = reversed_onto f items []

-- the last mapped item that passes a test comes from the last item whose mapped item passes it
pub last_of_map : {A B : Type 0} (f : A → B) (p : B → Bool) (items : List A) (found : Option (Bor A))
    → option_map (λ item. item.now) found ≡ find (λ item. p (f item)) (reverse items)
    → option_map (λ item. f item.now) found ≡ find p (reverse (map f items))
last_of_map f p items found is =
    twice f found ∙ ap (option_map f) is ∙ sym (find_of_map f p (reverse items)) ∙ ap (find p) (sym (reverse_of_map f items))
