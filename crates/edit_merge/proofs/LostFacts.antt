-- Where one side is picked, the other side changed nothing else.
use Rattle.std.proofs.Common.{◌≡◌, inl, inr, ℕ, Bool, true, false, cond, List, Option, Some, None, refl, ap, ◌∙◌}
use Rattle.std.specs.Prelude.{◌||◌, ◌⊎◌, not}
use Rattle.edit_units.specs.Units.{UnitReading}
use Rattle.edit_versions.proofs.IndexFacts.{AmongOrNone, among_or_none}
use Rattle.edit_versions.specs.Alike.{are_alike_in_layout, have_same_words, is_alike, is_same}
use Rattle.edit_versions.specs.Versions.{VersionReading, named_index, own_part, version_unit}
use Rattle.edit_merge.specs.Picked.{Versions, choice_at, choose, group_choice, is_alike_named, is_changed_group, is_repeated_in, slot_of}
use Rattle.edit_merge.specs.declared.picking.Choice.TheVariants.{Ours, Theirs}
use Rattle.edit_merge.proofs.UnchangedFacts.{named_same}

-- ---- choices

ours_because : (theirs_same ours_same theirs_alike ours_alike : Bool) → choose theirs_same ours_same theirs_alike ours_alike ≡ Ours
    → (theirs_same ≡ true) ⊎ (theirs_alike ≡ true)
ours_because true ours_same theirs_alike ours_alike is = inl refl
ours_because false true theirs_alike ours_alike is = absurd (cc)
ours_because false false true ours_alike is = inr refl
ours_because false false false true is = absurd (cc)
ours_because false false false false is = absurd (cc)

theirs_because : (theirs_same ours_same theirs_alike ours_alike : Bool) → choose theirs_same ours_same theirs_alike ours_alike ≡ Theirs
    → (ours_same ≡ true) ⊎ (ours_alike ≡ true)
theirs_because true ours_same theirs_alike ours_alike is = absurd (cc)
theirs_because false true theirs_alike ours_alike is = inl refl
theirs_because false false true ours_alike is = absurd (cc)
theirs_because false false false true is = inr refl
theirs_because false false false false is = absurd (cc)

one_of : (x y : Bool) → (x || y) ≡ true → (x ≡ true) ⊎ (y ≡ true)
one_of true y is = inl refl
one_of false y is = inr is

-- ---- units that are the same

same_alike : (v : VersionReading) (u : Option UnitReading) (w : VersionReading) (x : Option UnitReading) → is_same v u w x ≡ true
    → is_alike v u w x ≡ true
same_alike v None w None is = refl
same_alike v None w (Some x) is = absurd (cc)
same_alike v (Some u) w None is = absurd (cc)
same_alike v (Some u) w (Some x) is = ap (λ b. b || are_alike_in_layout v.text u w.text x || have_same_words v.text u w.text x) is

not_false : (b : Bool) → not b ≡ true → b ≡ false
not_false false is = refl
not_false true is = absurd (cc)

-- if the units with an own name are unchanged, so is the unit with a name, or none is there
group_alike : (v w : VersionReading) (name : List ℕ) → not (is_changed_group v w (own_part name)) ≡ true → is_alike_named v w name ≡ true
group_alike v w name unchanged = by (among_or_none v name) (among_or_none w name)
  where
    none : is_changed_group v w (own_part name) ≡ false
    none = not_false (is_changed_group v w (own_part name)) unchanged

    by : AmongOrNone v name → AmongOrNone w name → is_alike_named v w name ≡ true
    by (AmongOrNone.among here) there =
        same_alike v (version_unit v (named_index v name)) w (version_unit w (named_index w name)) (named_same v w name none (inl here))
    by (AmongOrNone.none absent) (AmongOrNone.among there) =
        same_alike v (version_unit v (named_index v name)) w (version_unit w (named_index w name)) (named_same v w name none (inr there))
    by (AmongOrNone.none absent) (AmongOrNone.none absent') =
        ap (λ i. is_alike v (version_unit v i) w (version_unit w (named_index w name))) absent
        ∙ ap (λ i. is_alike v None w (version_unit w i)) absent'

-- ---- what is picked

pub our_change_kept : (vs : Versions) (name : List ℕ) → (slot_of vs name).choice ≡ Theirs → is_alike_named vs.ours vs.base name ≡ true
our_change_kept vs name is = by (is_repeated_in vs (own_part name)) is
  where
    b : Option UnitReading
    b = version_unit vs.base (named_index vs.base name)

    o : Option UnitReading
    o = version_unit vs.ours (named_index vs.ours name)

    t : Option UnitReading
    t = version_unit vs.theirs (named_index vs.theirs name)

    by : (repeated : Bool)
        → cond repeated (group_choice vs (own_part name) (named_index vs.ours name) (named_index vs.theirs name))
        (choice_at vs (named_index vs.base name) (named_index vs.ours name) (named_index vs.theirs name))
        ≡ Theirs → is_alike_named vs.ours vs.base name ≡ true
    by true picked =
        elim (theirs_because (not (is_changed_group vs.theirs vs.base (own_part name)))
        (not (is_changed_group vs.ours vs.base (own_part name)))
        (is_same vs.theirs t vs.ours o) false picked) [
          | inl same ↦ group_alike vs.ours vs.base name same
          | inr alike ↦ absurd (cc)
        ]
    by false picked =
        elim (theirs_because (is_same vs.theirs t vs.base b) (is_same vs.ours o vs.base b)
        (is_alike vs.theirs t vs.base b || is_alike vs.theirs t vs.ours o) (is_alike vs.ours o vs.base b) picked) [
          | inl same ↦ same_alike vs.ours o vs.base b same
          | inr alike ↦ alike
        ]

pub their_change_kept : (vs : Versions) (name : List ℕ) → (slot_of vs name).choice ≡ Ours
    → (is_alike_named vs.theirs vs.base name ≡ true) ⊎ (is_alike_named vs.theirs vs.ours name ≡ true)
their_change_kept vs name is = by (is_repeated_in vs (own_part name)) is
  where
    b : Option UnitReading
    b = version_unit vs.base (named_index vs.base name)

    o : Option UnitReading
    o = version_unit vs.ours (named_index vs.ours name)

    t : Option UnitReading
    t = version_unit vs.theirs (named_index vs.theirs name)

    by : (repeated : Bool)
        → cond repeated (group_choice vs (own_part name) (named_index vs.ours name) (named_index vs.theirs name))
        (choice_at vs (named_index vs.base name) (named_index vs.ours name) (named_index vs.theirs name))
        ≡ Ours → (is_alike_named vs.theirs vs.base name ≡ true) ⊎ (is_alike_named vs.theirs vs.ours name ≡ true)
    by true picked =
        elim (ours_because (not (is_changed_group vs.theirs vs.base (own_part name)))
        (not (is_changed_group vs.ours vs.base (own_part name)))
        (is_same vs.theirs t vs.ours o) false picked) [
          | inl same ↦ inl (group_alike vs.theirs vs.base name same)
          | inr alike ↦ inr (same_alike vs.theirs t vs.ours o alike)
        ]
    by false picked =
        elim (ours_because (is_same vs.theirs t vs.base b) (is_same vs.ours o vs.base b)
        (is_alike vs.theirs t vs.base b || is_alike vs.theirs t vs.ours o) (is_alike vs.ours o vs.base b) picked) [
          | inl same ↦ inl (same_alike vs.theirs t vs.base b same)
          | inr alike ↦ one_of (is_alike vs.theirs t vs.base b) (is_alike vs.theirs t vs.ours o) alike
        ]
