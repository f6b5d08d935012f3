-- If the sides are exchanged, the same places are conflicts.
use Rattle.std.proofs.Common.{◌≡◌, ℕ, Bool, true, false, cond, List, [], ◌∷◌, Option, refl, sym, ap, ap₂, ◌∙◌}
use Rattle.std.specs.Prelude.{◌&&◌, ◌||◌, filter, not}
use Rattle.edit_units.specs.Units.{UnitReading}
use Rattle.edit_versions.proofs.SymmetryFacts.{alike_symmetric, bytes_symmetric, same_symmetric}
use Rattle.edit_versions.specs.Alike.{is_alike, is_same}
use Rattle.edit_versions.specs.Versions.{has_unit_named, is_repeated_name, named_index, own_part, version_names, version_unit}
use Rattle.edit_merge.specs.Picked.{Versions, are_equal_names, choice_at, choose, exchanged, group_choice, is_alike_order, is_changed_group, is_repeated_in, order_choice, slot_of}
use Rattle.edit_merge.specs.declared.picking.Choice.TheVariants.{Conflict}

-- ---- choices

-- four tests fail
pub record FourFail (theirs_same ours_same theirs_alike ours_alike : Bool) : Type 0 where
  pub first : theirs_same ≡ false
  pub second : ours_same ≡ false
  pub third : theirs_alike ≡ false
  pub fourth : ours_alike ≡ false

pub conflict_fails : (theirs_same ours_same theirs_alike ours_alike : Bool)
    → choose theirs_same ours_same theirs_alike ours_alike ≡ Conflict → FourFail theirs_same ours_same theirs_alike ours_alike
conflict_fails true ours_same theirs_alike ours_alike is = absurd (cc)
conflict_fails false true theirs_alike ours_alike is = absurd (cc)
conflict_fails false false true ours_alike is = absurd (cc)
conflict_fails false false false true is = absurd (cc)
conflict_fails false false false false is = record { first = refl; second = refl; third = refl; fourth = refl }

pub failed_conflict : (theirs_same ours_same theirs_alike ours_alike : Bool) → FourFail theirs_same ours_same theirs_alike ours_alike
    → choose theirs_same ours_same theirs_alike ours_alike ≡ Conflict
failed_conflict theirs_same ours_same theirs_alike ours_alike fail =
    ap (λ b. choose b ours_same theirs_alike ours_alike) fail.first ∙ ap (λ b. choose false b theirs_alike ours_alike) fail.second
    ∙ ap (λ b. choose false false b ours_alike) fail.third ∙ ap (λ b. choose false false false b) fail.fourth

pub or_fails : (x y : Bool) → (x || y) ≡ false → (x ≡ false) × (y ≡ false)
or_fails true y is = absurd (cc)
or_fails false y is = (refl, is)

-- a conflict between two sides is one between the exchanged sides
exchanged_conflict : (theirs_same ours_same theirs_alike both_alike ours_alike both_alike' : Bool) → both_alike ≡ both_alike'
    → choose theirs_same ours_same (theirs_alike || both_alike) ours_alike ≡ Conflict
    → choose ours_same theirs_same (ours_alike || both_alike') theirs_alike ≡ Conflict
exchanged_conflict theirs_same ours_same theirs_alike both_alike ours_alike both_alike' both is =
    let fail = conflict_fails theirs_same ours_same (theirs_alike || both_alike) ours_alike is in
    let third = or_fails theirs_alike both_alike fail.third in
    failed_conflict ours_same theirs_same (ours_alike || both_alike') theirs_alike
    (record {
      first = fail.second;
      second = fail.first;
      third = ap₂ (λ x y. x || y) fail.fourth (sym both ∙ third.1);
      fourth = third.0;
    })

-- ---- places

or_exchanged : (x y z : Bool) → (x || y || z) ≡ (x || z || y)
or_exchanged true y z = refl
or_exchanged false true true = refl
or_exchanged false true false = refl
or_exchanged false false true = refl
or_exchanged false false false = refl

pub places_conflict_alike : (vs : Versions) (name : List ℕ) → (slot_of vs name).choice ≡ Conflict
    → (slot_of (exchanged vs) name).choice ≡ Conflict
places_conflict_alike vs name is =
    ap
    (λ r.
    cond r (group_choice (exchanged vs) (own_part name) (named_index vs.theirs name) (named_index vs.ours name))
    (choice_at (exchanged vs) (named_index vs.base name) (named_index vs.theirs name) (named_index vs.ours name)))
    (sym
    (or_exchanged (is_repeated_name vs.base (own_part name)) (is_repeated_name vs.ours (own_part name))
    (is_repeated_name vs.theirs (own_part name))))
    ∙ by (is_repeated_in vs (own_part name)) is
  where
    b : Option UnitReading
    b = version_unit vs.base (named_index vs.base name)

    o : Option UnitReading
    o = version_unit vs.ours (named_index vs.ours name)

    t : Option UnitReading
    t = version_unit vs.theirs (named_index vs.theirs name)

    theirs_same : Bool
    theirs_same = not (is_changed_group vs.theirs vs.base (own_part name))

    ours_same : Bool
    ours_same = not (is_changed_group vs.ours vs.base (own_part name))

    by : (repeated : Bool)
        → cond repeated (group_choice vs (own_part name) (named_index vs.ours name) (named_index vs.theirs name))
        (choice_at vs (named_index vs.base name) (named_index vs.ours name) (named_index vs.theirs name))
        ≡ Conflict
        → cond repeated (group_choice (exchanged vs) (own_part name) (named_index vs.theirs name) (named_index vs.ours name))
        (choice_at (exchanged vs) (named_index vs.base name) (named_index vs.theirs name) (named_index vs.ours name))
        ≡ Conflict
    by true conflict =
        let fail = conflict_fails theirs_same ours_same (is_same vs.theirs t vs.ours o) false conflict in
        failed_conflict ours_same theirs_same (is_same vs.ours o vs.theirs t) false
        (record {
          first = fail.second;
          second = fail.first;
          third = same_symmetric vs.ours o vs.theirs t ∙ fail.third;
          fourth = refl;
        })
    by false conflict =
        exchanged_conflict (is_same vs.theirs t vs.base b) (is_same vs.ours o vs.base b) (is_alike vs.theirs t vs.base b)
        (is_alike vs.theirs t vs.ours o) (is_alike vs.ours o vs.base b) (is_alike vs.ours o vs.theirs t)
        (alike_symmetric vs.theirs t vs.ours o) conflict

-- ---- the order

names_symmetric : (names others : List (List ℕ)) → are_equal_names names others ≡ are_equal_names others names
names_symmetric [] [] = refl
names_symmetric [] (m ∷ ms) = refl
names_symmetric (n ∷ ns) [] = refl
names_symmetric (n ∷ ns) (m ∷ ms) = ap₂ (λ x y. x && y) (bytes_symmetric n m) (names_symmetric ns ms)

pub orders_conflict_alike : (vs : Versions) → order_choice vs ≡ Conflict → order_choice (exchanged vs) ≡ Conflict
orders_conflict_alike vs is =
    exchanged_conflict (are_equal_names (version_names vs.theirs) (version_names vs.base))
    (are_equal_names (version_names vs.ours) (version_names vs.base)) (is_alike_order vs.theirs vs.base)
    (is_alike_order vs.theirs vs.ours) (is_alike_order vs.ours vs.base) (is_alike_order vs.ours vs.theirs)
    (names_symmetric (filter (has_unit_named vs.ours) (version_names vs.theirs))
    (filter (has_unit_named vs.theirs) (version_names vs.ours)))
    is
