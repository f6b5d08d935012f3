-- Lists of edits that remove each field by its own edit, from the first field to the last.
use Rattle.std.proofs.Common.{◌≡◌, ℕ, suc, ◌+◌, ◌-◌, ◌<◌, Bool, true, false, cond, List, [], ◌∷◌, ◌++◌, length, drop, take, get_or, map, refl, sym, ap, ◌∙◌, arith, append_assoc, length-drop, Option, Some, None}
use Rattle.std.specs.List.{list_any}
use Rattle.std.proofs.lemmas.List.{drop_more, take_all}
use Rattle.bib_syntax.specs.Reading.{EntryReading, FieldReading}
use Rattle.edit_entries.specs.Documents.{has_name}
use Rattle.edit_entries.specs.Edits.{Edit}
use Rattle.edit_entries.specs.Unset.{edit_before, own_edits, with_edit}

-- these edits and those after them, or `None` if the latter are missing
abbrev pub with_edits : List Edit → Option (List Edit) → Option (List Edit)
with_edits edits None = None
with_edits edits (Some more) = Some (edits ++ more)

one_with : (edits : List Edit) (edit : Edit) (o : Option (List Edit))
    → with_edits edits (with_edit (Some edit) o) ≡ with_edits (edits ++ edit ∷ []) o
one_with edits edit None = refl
one_with edits edit (Some more) = ap Some (sym (append_assoc edits (edit ∷ []) more))

module _ {A : Type 0} (view : A → FieldReading) (text name : List ℕ) (e : EntryReading) (xs : List A) (done : List Edit) (i : ℕ)
    (whole : Option (List Edit)) (so_far : whole ≡ with_edits done (own_edits text name e i (map view (drop i xs)))) where
  module _ (x : A) (within : i < length xs) (is : x ≡ get_or xs i x) where
    abbrev by_field : Bool → Bool → Option (List Edit)
    by_field named more =
        cond named (with_edit (edit_before more text e i (view x)) (own_edits text name e (i + 1) (map view (drop (i + 1) xs))))
        (own_edits text name e (i + 1) (map view (drop (i + 1) xs)))

    here : whole ≡ with_edits done (by_field (has_name name (view x)) (list_any (has_name name) (map view (drop (i + 1) xs))))
    here =
        let next : suc i ≡ i + 1 = omega arith in
        let after : List FieldReading = map view (drop (i + 1) xs) in
        so_far
        ∙ ap (λ l. with_edits done (own_edits text name e i (map view l)))
        (drop_more xs i x within ∙ ap (λ y. y ∷ drop (i + 1) xs) (sym is))
        ∙ ap
        (λ m. with_edits done
        (cond (has_name name (view x))
        (with_edit (edit_before (list_any (has_name name) after) text e i (view x)) (own_edits text name e m after))
        (own_edits text name e m after))) next

    pub passed_over : has_name name (view x) ≡ false → whole ≡ with_edits done (own_edits text name e (i + 1) (map view (drop (i + 1) xs)))
    passed_over named =
        here ∙ ap (λ b. with_edits done (by_field b (list_any (has_name name) (map view (drop (i + 1) xs))))) named

    more_is : (more : Bool) → more ≡ list_any (has_name name) (map view (take (length xs - (i + 1)) (drop (i + 1) xs)))
        → list_any (has_name name) (map view (drop (i + 1) xs)) ≡ more
    more_is more found =
        sym
        (found
        ∙ ap (λ l. list_any (has_name name) (map view l))
        (take_all (length xs - (i + 1)) (drop (i + 1) xs) (omega (arith, length-drop (i + 1) xs))))

    pub one_added : (more : Bool) (edit : Edit) → has_name name (view x) ≡ true
        → more ≡ list_any (has_name name) (map view (take (length xs - (i + 1)) (drop (i + 1) xs)))
        → edit_before more text e i (view x) ≡ Some edit
        → whole ≡ with_edits (done ++ edit ∷ []) (own_edits text name e (i + 1) (map view (drop (i + 1) xs)))
    one_added more edit named found one =
        let others : Option (List Edit) = own_edits text name e (i + 1) (map view (drop (i + 1) xs)) in
        here ∙ ap (λ b. with_edits done (by_field b (list_any (has_name name) (map view (drop (i + 1) xs))))) named
        ∙ ap (λ b. with_edits done (by_field true b)) (more_is more found) ∙ ap (λ o. with_edits done (with_edit o others)) one
        ∙ one_with done edit others
