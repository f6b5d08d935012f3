-- General facts about lists.
use Rattle.std.proofs.Common.{◌≡◌, ℕ, ◌+◌, ◌<◌, false, List, [], ◌∷◌, ◌++◌, length, map, take, get_or, refl, sym, ap, ◌∙◌, arith, append_assoc, Option}
use Rattle.std.specs.List.{filter_map}
use Rattle.std.proofs.lemmas.List.Elements.{filter_map-append}
use Rattle.std.proofs.lemmas.List.{take_more, map-append}
use Rattle.std.proofs.lemmas.Slice.Eq.{bytes_eq-Decides}
use Rattle.bib_text.proofs.EnumFacts.{IsNoneOf}
use Rattle.bib_tables.specs.Requirements.{is_one_of}

-- functions with the same values make the same list
pub map_same : {A B : Type 0} (f g : A → B) → ((x : A) → f x ≡ g x) → (xs : List A) → map f xs ≡ map g xs
map_same f g same [] = refl
map_same f g same (x ∷ xs) = ap (λ y. y ∷ map f xs) (same x) ∙ ap (λ l. g x ∷ l) (map_same f g same xs)

-- a name that differs from each of some names isn't one of them
pub one_of_none : (names : List (List ℕ)) (name : List ℕ) → IsNoneOf names name → is_one_of names name ≡ false
one_of_none [] name none = refl
one_of_none (x ∷ xs) name none = search (arith, none.0, one_of_none xs name none.1, bytes_eq-Decides)

-- the images of the elements up to the next index are those of the elements before, and that of the element there
pub seen_at : {A B : Type 0} (view : A → B) (xs : List A) (i : ℕ) (d : A) → i < length xs
    → map view (take (i + 1) xs) ≡ map view (take i xs) ++ view (get_or xs i d) ∷ []
seen_at view xs i d within = ap (map view) (take_more xs i d within) ∙ map-append view (take i xs) (get_or xs i d ∷ [])

-- after the parents that one more key finds are added, those of the keys up to the next index are added
pub mapped_more : {A B C D : Type 0} (view : A → B) (h : B → Option C) (f : C → D) (xs : List A) (i : ℕ) (d : A) → i < length xs
    → (old start : List D) → old ≡ start ++ map f (filter_map h (map view (take i xs)))
    → old ++ map f (filter_map h (view (get_or xs i d) ∷ [])) ≡ start ++ map f (filter_map h (map view (take (i + 1) xs)))
mapped_more view h f xs i d within old start before =
    let x = get_or xs i d in
    ap (λ l. l ++ map f (filter_map h (view x ∷ []))) before
    ∙ append_assoc start (map f (filter_map h (map view (take i xs)))) (map f (filter_map h (view x ∷ [])))
    ∙ ap (λ l. start ++ l)
    (sym (map-append f (filter_map h (map view (take i xs))) (filter_map h (view x ∷ [])))
    ∙ ap (map f) (sym (filter_map-append h (map view (take i xs)) (view x ∷ [])))
    ∙ ap (λ l. map f (filter_map h l)) (sym (seen_at view xs i d within)))
