-- Merges of versions that differ in layout only have the same conflicts, and pick alike units.
use Rattle.std.proofs.Common.{◌≡◌, inl, inr, ℕ, Bool, true, false, cond, List, Option, refl, sym, ap, ap₂, ◌∙◌, subst}
use Rattle.std.specs.Prelude.{◌⊎◌, ◌&&◌, ◌||◌, not}
use Rattle.bib_text.proofs.PlaceFacts.{test_clash}
use Rattle.edit_units.specs.Units.{AreUnits, UnitReading}
use Rattle.edit_versions.proofs.SymmetryFacts.{alike_symmetric}
use Rattle.edit_versions.proofs.TransitiveFacts.{HasRun, alike_transitive, has_run, same_alike}
use Rattle.edit_versions.specs.Alike.{is_alike, is_same}
use Rattle.edit_versions.specs.Versions.{VersionReading, named_index, own_part, version_unit}
use Rattle.edit_merge.proofs.ExchangedFacts.{FourFail, conflict_fails, failed_conflict, or_fails}
use Rattle.edit_merge.specs.Clean.{IsPicked}
use Rattle.edit_merge.specs.Picked.{Versions, choice_at, choose, group_choice, is_alike_named, is_repeated_in, slot_of}
use Rattle.edit_merge.specs.Relaid.{AreRelaid, pick_alike, picked_version}
use Rattle.edit_merge.specs.declared.picking.Choice.{Choice}
use Rattle.edit_merge.specs.declared.picking.Choice.TheVariants.{Ours, Theirs, Conflict}

-- a unit of a version, or none
record Placed : Type 0 where
  version : VersionReading
  unit : Option UnitReading
  run : HasRun version unit

-- the units with a name
abbrev named : (v : VersionReading) → AreUnits v.text v.units → List ℕ → Placed
named v are name = record { version = v; unit = version_unit v (named_index v name); run = has_run v (named_index v name) are }

abbrev alike : Placed → Placed → Bool
alike p q = is_alike p.version p.unit q.version q.unit

abbrev same : Placed → Placed → Bool
same p q = is_same p.version p.unit q.version q.unit

alike_back : (p q : Placed) → alike p q ≡ true → alike q p ≡ true
alike_back p q is = alike_symmetric q.version q.unit p.version p.unit ∙ is

alike_then : (p q r : Placed) → alike p q ≡ true → alike q r ≡ true → alike p r ≡ true
alike_then p q r first second =
    alike_transitive p.version p.unit q.version q.unit r.version r.unit p.run q.run r.run first second

alike_same : (p q : Placed) → same p q ≡ true → alike p q ≡ true
alike_same p q is = same_alike p.version p.unit q.version q.unit is

-- the choice between two sides
abbrev choice_of : Placed → Placed → Placed → Choice
choice_of b o t = choose (same t b) (same o b) (alike t b || alike t o) (alike o b)

-- ---- conflicts

-- a test fails if its success is absurd
fails : (b : Bool) → (b ≡ true → ⊥) → b ≡ false
fails true absurdity = absurd (absurdity refl)
fails false absurdity = refl

both_fail : {a b : Bool} → a ≡ false → b ≡ false → (a || b) ≡ false
both_fail {a} {b} first second = ap₂ (λ x y. x || y) first second

-- units that are alike, one by one
record AreAlike (b o t b' o' t' : Placed) : Type 0 where
  base : alike b b' ≡ true
  ours : alike o o' ≡ true
  theirs : alike t t' ≡ true

-- units that are alike two others are alike if those are
alike_both : (p p' q q' : Placed) → alike p p' ≡ true → alike q q' ≡ true → alike p' q' ≡ true → alike p q ≡ true
alike_both p p' q q' first second is = alike_then p p' q first (alike_then p' q' q is (alike_back q q' second))

unlike_both : (p p' q q' : Placed) → alike p p' ≡ true → alike q q' ≡ true → alike p q ≡ false → alike p' q' ≡ false
unlike_both p p' q q' first second unlike =
    fails (alike p' q') (λ both. test_clash (alike p q) (alike_both p p' q q' first second both) unlike)

unlike_unequal : (p q : Placed) → alike p q ≡ false → same p q ≡ false
unlike_unequal p q unlike = fails (same p q) (λ equal. test_clash (alike p q) (alike_same p q equal) unlike)

conflict_stays : (b o t b' o' t' : Placed) → AreAlike b o t b' o' t' → choice_of b o t ≡ Conflict → choice_of b' o' t' ≡ Conflict
conflict_stays b o t b' o' t' are is =
    let fail = conflict_fails (same t b) (same o b) (alike t b || alike t o) (alike o b) is in
    let third = or_fails (alike t b) (alike t o) fail.third in
    let tb : alike t' b' ≡ false = unlike_both t t' b b' are.theirs are.base third.0 in
    let to : alike t' o' ≡ false = unlike_both t t' o o' are.theirs are.ours third.1 in
    let ob : alike o' b' ≡ false = unlike_both o o' b b' are.ours are.base fail.fourth in
    failed_conflict (same t' b') (same o' b') (alike t' b' || alike t' o') (alike o' b')
    (record { first = unlike_unequal t' b' tb; second = unlike_unequal o' b' ob; third = both_fail tb to; fourth = ob })

-- ---- what is picked

-- the reason for a choice
data IsChoice (b o t : Placed) : Choice → Type 0 where
  ours_by_base : alike t b ≡ true → IsChoice b o t Ours
  ours_by_ours : alike t o ≡ true → IsChoice b o t Ours
  theirs : alike o b ≡ true → IsChoice b o t Theirs
  conflict : IsChoice b o t Conflict

choice_is : (b o t : Placed) → IsChoice b o t (choice_of b o t)
choice_is b o t = by (same t b) (same o b) (alike t b) (alike t o) (alike o b) refl refl refl refl refl
  where
    by : (ts os tb to ob : Bool) → same t b ≡ ts → same o b ≡ os → alike t b ≡ tb → alike t o ≡ to → alike o b ≡ ob
        → IsChoice b o t (choose ts os (tb || to) ob)
    by true os tb to ob one two three four five = IsChoice.ours_by_base (alike_same t b one)
    by false true tb to ob one two three four five = IsChoice.theirs (alike_same o b two)
    by false false true to ob one two three four five = IsChoice.ours_by_base three
    by false false false true ob one two three four five = IsChoice.ours_by_ours four
    by false false false false true one two three four five = IsChoice.theirs five
    by false false false false false one two three four five = IsChoice.conflict

-- the unit that a choice picks; ours if it is a conflict
abbrev picked : Placed → Placed → Choice → Placed
picked o t Ours = o
picked o t Theirs = t
picked o t Conflict = o

picks_alike : (b o t b' o' t' : Placed) → AreAlike b o t b' o' t' → (one two : Choice) → IsChoice b o t one → IsChoice b' o' t' two
    → IsPicked one → IsPicked two → alike (picked o t one) (picked o' t' two) ≡ true
picks_alike b o t b' o' t' are Ours Ours first second clean clean' = are.ours
picks_alike b o t b' o' t' are Theirs Theirs first second clean clean' = are.theirs
picks_alike b o t b' o' t' are Ours Theirs (IsChoice.ours_by_ours to) (IsChoice.theirs ob) clean clean' =
    alike_then o t t' (alike_back t o to) are.theirs
picks_alike b o t b' o' t' are Ours Theirs (IsChoice.ours_by_base tb) (IsChoice.theirs ob) clean clean' =
    alike_then o b t' (alike_both o o' b b' are.ours are.base ob) (alike_then b t t' (alike_back t b tb) are.theirs)
picks_alike b o t b' o' t' are Theirs Ours (IsChoice.theirs ob) (IsChoice.ours_by_ours to) clean clean' =
    alike_then t t' o' are.theirs to
picks_alike b o t b' o' t' are Theirs Ours (IsChoice.theirs ob) (IsChoice.ours_by_base tb) clean clean' =
    alike_then t b o' (alike_both t t' b b' are.theirs are.base tb) (alike_then b o o' (alike_back o b ob) are.ours)
picks_alike b o t b' o' t' are Conflict two first second clean clean' = absurd clean
picks_alike b o t b' o' t' are Ours Conflict first second clean clean' = absurd clean'
picks_alike b o t b' o' t' are Theirs Conflict first second clean clean' = absurd clean'

-- ---- places

single_choice : (vs : Versions) (name : List ℕ) → is_repeated_in vs (own_part name) ≡ false
    → (slot_of vs name).choice ≡ choice_at vs (named_index vs.base name) (named_index vs.ours name) (named_index vs.theirs name)
single_choice vs name single =
    ap
    (λ r.
    cond r (group_choice vs (own_part name) (named_index vs.ours name) (named_index vs.theirs name))
    (choice_at vs (named_index vs.base name) (named_index vs.ours name) (named_index vs.theirs name)))
    single

pub relaid_conflict : (vs ws : Versions) (name : List ℕ) → AreRelaid vs ws name → (slot_of vs name).choice ≡ Conflict
    → (slot_of ws name).choice ≡ Conflict
relaid_conflict vs ws name are is =
    single_choice ws name are.single'
    ∙ conflict_stays (named vs.base are.units.base name) (named vs.ours are.units.ours name) (named vs.theirs are.units.theirs name)
    (named ws.base are.units'.base name) (named ws.ours are.units'.ours name) (named ws.theirs are.units'.theirs name)
    (record { base = are.base; ours = are.ours; theirs = are.theirs }) (sym (single_choice vs name are.single) ∙ is)

pub relaid_picks : (vs ws : Versions) (name : List ℕ) → AreRelaid vs ws name → IsPicked (slot_of vs name).choice
    → IsPicked (slot_of ws name).choice → pick_alike vs ws name ≡ true
relaid_picks vs ws name are =
    by (slot_of vs name).choice (slot_of ws name).choice
    (subst (IsChoice b o t) (sym (single_choice vs name are.single)) (choice_is b o t))
    (subst (IsChoice b' o' t') (sym (single_choice ws name are.single')) (choice_is b' o' t'))
  where
    b : Placed
    b = named vs.base are.units.base name

    o : Placed
    o = named vs.ours are.units.ours name

    t : Placed
    t = named vs.theirs are.units.theirs name

    b' : Placed
    b' = named ws.base are.units'.base name

    o' : Placed
    o' = named ws.ours are.units'.ours name

    t' : Placed
    t' = named ws.theirs are.units'.theirs name

    all : AreAlike b o t b' o' t'
    all = record { base = are.base; ours = are.ours; theirs = are.theirs }

    by : (one two : Choice) → IsChoice b o t one → IsChoice b' o' t' two → IsPicked one → IsPicked two
        → is_alike_named (picked_version vs one) (picked_version ws two) name ≡ true
    by Ours Ours first second clean clean' = picks_alike b o t b' o' t' all Ours Ours first second clean clean'
    by Theirs Theirs first second clean clean' = picks_alike b o t b' o' t' all Theirs Theirs first second clean clean'
    by Ours Theirs first second clean clean' = picks_alike b o t b' o' t' all Ours Theirs first second clean clean'
    by Theirs Ours first second clean clean' = picks_alike b o t b' o' t' all Theirs Ours first second clean clean'
    by Conflict two first second clean clean' = absurd clean
    by Ours Conflict first second clean clean' = absurd clean'
    by Theirs Conflict first second clean clean' = absurd clean'
