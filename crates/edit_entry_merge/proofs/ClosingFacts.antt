-- The edits of the last field that stays, and of the fields after it.
use Rattle.std.proofs.Common.{◌≡◌, ℕ, suc, ◌-◌, List, [], ◌∷◌, ◌++◌, length, get_or, map, refl, sym, ap, ◌∙◌, arith, append_assoc, append-nil}
use Rattle.std.specs.Prelude.{◌==◌, true}
use Rattle.std.proofs.lemmas.Bool.Decides.{nat_tests}
use Rattle.bib_syntax.specs.Reading.{FieldReading}
use Rattle.edit_entries.specs.Changes.{FieldChange, edits_of_field, edits_of_fields, removal_edits}
use Rattle.edit_entry_merge.specs.Mixed.{closing_changes, last_changes, picked_change}
use Rattle.edit_entry_merge.specs.Picks.{FieldPick}
use Rattle.edit_entry_merge.specs.Working.{all_removed}

-- the last of some fields
abbrev pub last_of : FieldReading → List FieldReading → FieldReading
last_of f [] = f
last_of f (g ∷ gs) = last_of g gs

-- the element at the last index is the last of a list, mapped
pub last_is : {A : Type 0} (view : A → FieldReading) (xs : List A) (x : A) (f : FieldReading) (following : List FieldReading)
    → map view xs ≡ f ∷ following → x ≡ get_or xs (length xs - 1) x → view x ≡ last_of f following
last_is view [] x f following whole is = absurd (cc)
last_is view (y ∷ []) x f [] whole is =
    let same : x ≡ y = is ∙ ap (λ n. get_or (y ∷ []) n x) (let none : length (y ∷ []) - 1 ≡ 0 = omega arith in none) in
    let first : view y ≡ f = cc in
    ap view same ∙ first
last_is view (y ∷ []) x f (g ∷ gs) whole is = let none : ⊥ = cc in absurd none
last_is view (y ∷ z ∷ zs) x f [] whole is = let none : ⊥ = cc in absurd none
last_is view (y ∷ z ∷ zs) x f (g ∷ gs) whole is =
    let rest : map view (z ∷ zs) ≡ g ∷ gs = cc in
    let later : length (y ∷ z ∷ zs) - 1 ≡ suc (length (z ∷ zs) - 1) = omega arith in
    last_is view (z ∷ zs) x g gs rest (is ∙ ap (λ n. get_or (y ∷ z ∷ zs) n x) later)

-- the element at index 0 is the first of a list, mapped
pub first_is : {A : Type 0} (view : A → FieldReading) (xs : List A) (x : A) (f : FieldReading) (following : List FieldReading)
    → map view xs ≡ f ∷ following → x ≡ get_or xs 0 x → view x ≡ f
first_is view [] x f following whole is = absurd (cc)
first_is view (y ∷ ys) x f following whole is = let first : view y ≡ f = cc in ap view is ∙ first

-- the edits of fields that are removed, except the last one, which has another change
pub closing_edits : (text : List ℕ) (f : FieldReading) (following : List FieldReading) (change : FieldChange)
    → edits_of_fields text (f ∷ following) (map (λ g. FieldChange.removed) following ++ change ∷ [])
    ≡ edits_of_fields text (f ∷ following) (all_removed (f ∷ following)) ++ edits_of_field text (last_of f following) [] change
closing_edits text f [] change = append-nil (edits_of_field text f [] change)
closing_edits text f (g ∷ gs) change =
    ap (λ l. removal_edits f (g ∷ gs) ++ l) (closing_edits text g gs change)
    ∙ sym
    (append_assoc (removal_edits f (g ∷ gs)) (edits_of_fields text (g ∷ gs) (all_removed (g ∷ gs)))
    (edits_of_field text (last_of g gs) [] change))

-- the changes of the last field that stays, if a field follows or is added
pub closing_is : (text other : List ℕ) (all : List FieldReading) (f : FieldReading) (p : FieldPick) (following added : List FieldReading)
    → ((length following == 0) ≡ true → (length added == 0) ≡ true → ⊥)
    → last_changes text other all f p following added ≡ closing_changes text other all f p following added
closing_is text other all f p [] [] some = absurd (some refl refl)
closing_is text other all f p [] (g ∷ added) some = refl
closing_is text other all f p (h ∷ following) added some = refl

pub own_is : (text other : List ℕ) (all : List FieldReading) (f : FieldReading) (p : FieldPick) (following added : List FieldReading)
    → length following ≡ 0 → length added ≡ 0
    → edits_of_fields text (f ∷ following) (last_changes text other all f p following added)
    ≡ edits_of_field text f [] (picked_change other p)
own_is text other all f p [] [] none last = append-nil (edits_of_field text f [] (picked_change other p))
own_is text other all f p [] (g ∷ added) none last = absurd (omega (arith, last))
own_is text other all f p (h ∷ following) added none last = absurd (omega (arith, none))

-- if the test whether a length is 0 is true, it is 0
pub is_none : {A : Type 0} (xs : List A) → (length xs == 0) ≡ true → length xs ≡ 0
is_none xs is = grind (arith, nat_tests)
