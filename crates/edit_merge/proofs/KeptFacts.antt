-- A merge without a conflict loses no name.
use Rattle.std.proofs.Common.{◌≡◌, ◌⊎◌, inl, inr, ℕ, zero, suc, Bool, true, false, cond, List, [], ◌∷◌, ◌++◌, Option, Some, None, map, refl, sym, ap, ap₂, ◌∙◌, subst}
use Rattle.std.specs.Prelude.{◌&&◌, ◌||◌, bytes_eq, is_some, not, slice_get}
use Rattle.std.specs.List.{AllByRecursion, find, flat_map}
use Rattle.std.proofs.lemmas.Slice.Eq.{bytes_eq-Decides}
use Rattle.bib_text.proofs.PlaceFacts.{test_clash}
use Rattle.bib_queries.specs.Needed.{is_listed}
use Rattle.edit_units.specs.Units.{UnitReading}
use Rattle.edit_versions.specs.Versions.{VersionReading, version_unit}
use Rattle.edit_merge.specs.Clean.{IsClean, IsPicked}
use Rattle.edit_merge.specs.Lost.{is_lost, kept_choice, kept_slot, kept_slots, lost_at, picked_units, unit_list, units_at, unpicked_units}
use Rattle.edit_merge.specs.Picked.{Versions, slots}
use Rattle.edit_merge.specs.UnitNames.{dangles, defined_names, names_used}
use Rattle.edit_merge.specs.declared.picking.Choice.{Choice}
use Rattle.edit_merge.specs.declared.picking.Choice.TheVariants.{Ours, Theirs, Conflict}
use Rattle.edit_merge.specs.declared.slots.Slot.{Slot}
use Rattle.edit_merge.proofs.NameSetFacts.{listed_both, listed_one}

-- ---- lists

or_parts : (x y : Bool) → (x || y) ≡ true → (x ≡ true) ⊎ (y ≡ true)
or_parts true y is = inl refl
or_parts false y is = inr is

or_left : (x y : Bool) → x ≡ true → (x || y) ≡ true
or_left x y is = ap (λ b. b || y) is

or_right : (x y : Bool) → y ≡ true → (x || y) ≡ true
or_right true y is = refl
or_right false y is = is

clash : {A : Type 0} (b : Bool) → b ≡ true → b ≡ false → A
clash b is fails = absurd (test_clash b is fails)

-- a place is one of these
abbrev pub IsPlace : Slot → List Slot → Type 0
IsPlace s [] = ⊥
IsPlace s (t ∷ ts) = (s ≡ t) ⊎ IsPlace s ts

-- a unit with this name, at an index of a list
record IsFound (f : UnitReading → List (List ℕ)) (units : List UnitReading) (name : List ℕ) : Type 0 where
  index : ℕ
  unit : UnitReading
  here : slice_get units index ≡ Some unit
  has : is_listed (f unit) name ≡ true

found_unit : (f : UnitReading → List (List ℕ)) (units : List UnitReading) (name : List ℕ)
    → is_listed (flat_map f units) name ≡ true → IsFound f units name
found_unit f [] name is = clash false is refl
found_unit f (u ∷ us) name is = by (or_parts (is_listed (f u) name) (is_listed (flat_map f us) name) parts) (found_unit f us name)
  where
    parts : (is_listed (f u) name || is_listed (flat_map f us) name) ≡ true
    parts =
        ap (λ b. b || is_listed (flat_map f us) name) (sym (listed_one f u name)) ∙ sym (listed_both f (u ∷ []) us name) ∙ is

    by : (is_listed (f u) name ≡ true) ⊎ (is_listed (flat_map f us) name ≡ true)
        → (is_listed (flat_map f us) name ≡ true → IsFound f us name) → IsFound f (u ∷ us) name
    by (inl has) left = record { index = 0; unit = u; here = refl; has = has }
    by (inr rest) left =
        let found = left rest in
        record { index = suc found.index; unit = found.unit; here = found.here; has = found.has }

-- the names of a unit of a list are names of the list
listed_at : (f : UnitReading → List (List ℕ)) (units : List UnitReading) (i : ℕ) (u : UnitReading) (name : List ℕ)
    → slice_get units i ≡ Some u → is_listed (f u) name ≡ true → is_listed (flat_map f units) name ≡ true
listed_at f [] i u name here has = absurd (cc)
listed_at f (x ∷ xs) zero u name here has =
    let same : u ≡ x = cc in
    listed_both f (x ∷ []) xs name
    ∙ or_left (is_listed (flat_map f (x ∷ [])) name) (is_listed (flat_map f xs) name)
    (listed_one f x name ∙ ap (λ y. is_listed (f y) name) (sym same) ∙ has)
listed_at f (x ∷ xs) (suc i) u name here has =
    listed_both f (x ∷ []) xs name
    ∙ or_right (is_listed (flat_map f (x ∷ [])) name) (is_listed (flat_map f xs) name) (listed_at f xs i u name here has)

-- the names of the units at a place are names of all units
listed_place : (f : UnitReading → List (List ℕ)) (vs : Versions) (ss : List Slot) (s : Slot) (name : List ℕ) → IsPlace s ss
    → is_listed (flat_map f (picked_units vs s s.choice)) name ≡ true → is_listed (flat_map f (units_at vs ss)) name ≡ true
listed_place f vs [] s name place has = absurd place
listed_place f vs (t ∷ ts) s name (inl same) has =
    listed_both f (picked_units vs t t.choice) (units_at vs ts) name
    ∙ or_left (is_listed (flat_map f (picked_units vs t t.choice)) name) (is_listed (flat_map f (units_at vs ts)) name)
    (ap (λ x. is_listed (flat_map f (picked_units vs x x.choice)) name) (sym same) ∙ has)
listed_place f vs (t ∷ ts) s name (inr place) has =
    listed_both f (picked_units vs t t.choice) (units_at vs ts) name
    ∙ or_right (is_listed (flat_map f (picked_units vs t t.choice)) name) (is_listed (flat_map f (units_at vs ts)) name)
    (listed_place f vs ts s name place has)

-- the names of the unit at an index are names of the version
listed_index : (f : UnitReading → List (List ℕ)) (v : VersionReading) (index : Option ℕ) (name : List ℕ)
    → is_listed (flat_map f (unit_list (version_unit v index))) name ≡ true → is_listed (flat_map f v.units) name ≡ true
listed_index f v None name has = clash false has refl
listed_index f v (Some i) name has = by (slice_get v.units i) refl has
  where
    by : (found : Option UnitReading) → slice_get v.units i ≡ found → is_listed (flat_map f (unit_list found)) name ≡ true
        → is_listed (flat_map f v.units) name ≡ true
    by None here has = clash false has refl
    by (Some u) here has = listed_at f v.units i u name here (sym (listed_one f u name) ∙ has)

-- a side has this name among those of its units
abbrev IsOfSide : (UnitReading → List (List ℕ)) → Versions → List ℕ → Type 0
IsOfSide f vs name = (is_listed (flat_map f vs.ours.units) name ≡ true) ⊎ (is_listed (flat_map f vs.theirs.units) name ≡ true)

place_side : (f : UnitReading → List (List ℕ)) (vs : Versions) (s : Slot) (choice : Choice) (name : List ℕ)
    → is_listed (flat_map f (picked_units vs s choice)) name ≡ true → IsOfSide f vs name
place_side f vs s Ours name has = inl (listed_index f vs.ours s.ours name has)
place_side f vs s Theirs name has = inr (listed_index f vs.theirs s.theirs name has)
place_side f vs s Conflict name has =
    let ours : List UnitReading = unit_list (version_unit vs.ours s.ours) in
    let theirs : List UnitReading = unit_list (version_unit vs.theirs s.theirs) in
    elim (or_parts (is_listed (flat_map f ours) name) (is_listed (flat_map f theirs) name)
    (sym (listed_both f ours theirs name) ∙ has)) [
      | inl here ↦ inl (listed_index f vs.ours s.ours name here)
      | inr here ↦ inr (listed_index f vs.theirs s.theirs name here)
    ]

-- the names of a merge are those of its sides
merged_side : (f : UnitReading → List (List ℕ)) (vs : Versions) (ss : List Slot) (name : List ℕ)
    → is_listed (flat_map f (units_at vs ss)) name ≡ true → IsOfSide f vs name
merged_side f vs [] name has = clash false has refl
merged_side f vs (s ∷ ss) name has =
    elim (or_parts (is_listed (flat_map f (picked_units vs s s.choice)) name) (is_listed (flat_map f (units_at vs ss)) name)
    (sym (listed_both f (picked_units vs s s.choice) (units_at vs ss) name) ∙ has)) [
      | inl here ↦ place_side f vs s s.choice name here
      | inr rest ↦ merged_side f vs ss name rest
    ]

-- a search finds something if a name passes the test
search_finds : (test : List ℕ → Bool) (names : List (List ℕ)) (name : List ℕ) → is_listed names name ≡ true → test name ≡ true
    → is_some (find test names) ≡ true
search_finds test [] name has passes = clash false has refl
search_finds test (n ∷ ns) name has passes = by (test n) refl (search_finds test ns name)
  where
    by : (b : Bool) → test n ≡ b → (is_listed ns name ≡ true → test name ≡ true → is_some (find test ns) ≡ true)
        → is_some (cond b (Some n) (find test ns)) ≡ true
    by true is rest = refl
    by false is left = elim (or_parts (bytes_eq n name) (is_listed ns name) has) [
      | inl same ↦ clash (test name) passes (ap test (sym ((bytes_eq-Decides n name).0 same)) ∙ is)
      | inr rest ↦ left rest passes
    ]

-- ---- places without a conflict

picked_place : (vs originals : Versions) (ss : List Slot) (s : Slot) → IsClean (map (kept_slot vs originals) ss) → IsPlace s ss
    → IsPicked (kept_choice s.choice (lost_at vs originals s))
picked_place vs originals [] s clean place = absurd place
picked_place vs originals (t ∷ ts) s clean (inl same) =
    subst (λ x. IsPicked (kept_choice x.choice (lost_at vs originals x))) (sym same) clean.0
picked_place vs originals (t ∷ ts) s clean (inr place) = picked_place vs originals ts s clean.1 place

none_lost : (choice : Choice) (lost : Option (List ℕ)) → IsPicked (kept_choice choice lost) → is_some lost ≡ false
none_lost choice None picked = refl
none_lost choice (Some name) picked = absurd picked

choice_kept : (choice : Choice) (lost : Option (List ℕ)) → IsPicked (kept_choice choice lost) → kept_choice choice lost ≡ choice
choice_kept choice None picked = refl
choice_kept choice (Some name) picked = absurd picked

no_conflict : (lost : Option (List ℕ)) → IsPicked (kept_choice Conflict lost) → ⊥
no_conflict None picked = picked
no_conflict (Some name) picked = picked

kept_picked : (vs originals : Versions) (s : Slot) (choice : Choice)
    → picked_units vs (kept_slot vs originals s) choice ≡ picked_units vs s choice
kept_picked vs originals s Ours = refl
kept_picked vs originals s Theirs = refl
kept_picked vs originals s Conflict = refl

-- a merge without a conflict has the picked units
kept_units : (vs originals : Versions) (ss : List Slot) → IsClean (map (kept_slot vs originals) ss)
    → units_at vs (map (kept_slot vs originals) ss) ≡ units_at vs ss
kept_units vs originals [] clean = refl
kept_units vs originals (s ∷ ss) clean =
    ap₂ (λ x y. x ++ y)
    (kept_picked vs originals s (kept_choice s.choice (lost_at vs originals s))
    ∙ ap (picked_units vs s) (choice_kept s.choice (lost_at vs originals s) clean.0))
    (kept_units vs originals ss clean.1)

-- ---- each unit has a place

pub record HavePlaces (vs : Versions) : Type 0 where
  pub ours : (i : ℕ) (u : UnitReading) → slice_get vs.ours.units i ≡ Some u → (s : Slot) × IsPlace s (slots vs) × (s.ours ≡ Some i)
  pub theirs : (i : ℕ) (u : UnitReading) → slice_get vs.theirs.units i ≡ Some u → (s : Slot) × IsPlace s (slots vs) × (s.theirs ≡ Some i)

lost_dangles : (x y z : Bool) → (x && (not y && not z)) ≡ true → x ≡ true
lost_dangles true y z is = refl
lost_dangles false y z is = is

undefined_if : (uses defines : Bool) → (uses && not defines) ≡ true → defines ≡ false
undefined_if true true is = sym is
undefined_if true false is = refl
undefined_if false true is = sym is
undefined_if false false is = refl

used_if : (uses defines : Bool) → (uses && not defines) ≡ true → uses ≡ true
used_if true defines is = refl
used_if false defines is = is

lost_undefined : (vs originals : Versions) (name : List ℕ) → is_lost vs originals name ≡ true
    → is_listed (flat_map defined_names (units_at vs (slots vs))) name ≡ false
lost_undefined vs originals name lost =
    undefined_if (is_listed (flat_map names_used (units_at vs (slots vs))) name)
    (is_listed (flat_map defined_names (units_at vs (slots vs))) name)
    (lost_dangles (dangles (units_at vs (slots vs)) name) (dangles originals.ours.units name) (dangles originals.theirs.units name) lost)

-- a unit of ours that defines a lost name is at a place with a conflict
lost_in_ours : (vs originals : Versions) (name : List ℕ) (s : Slot) (i : ℕ) (u : UnitReading) → IsPlace s (slots vs) → s.ours ≡ Some i
    → slice_get vs.ours.units i ≡ Some u → is_listed (defined_names u) name ≡ true → is_lost vs originals name ≡ true
    → (choice : Choice) → s.choice ≡ choice → IsPicked (kept_choice s.choice (lost_at vs originals s)) → ⊥
lost_in_ours vs originals name s i u place index here has lost Ours is picked =
    let unit : version_unit vs.ours s.ours ≡ Some u = ap (version_unit vs.ours) index ∙ here in
    clash (is_listed (flat_map defined_names (units_at vs (slots vs))) name)
    (listed_place defined_names vs (slots vs) s name place
    (ap (λ c. is_listed (flat_map defined_names (picked_units vs s c)) name) is
    ∙ ap (λ x. is_listed (flat_map defined_names (unit_list x)) name) unit ∙ listed_one defined_names u name ∙ has))
    (lost_undefined vs originals name lost)
lost_in_ours vs originals name s i u place index here has lost Theirs is picked =
    let unit : version_unit vs.ours s.ours ≡ Some u = ap (version_unit vs.ours) index ∙ here in
    clash (is_some (lost_at vs originals s))
    (ap (λ c. is_some (find (is_lost vs originals) (flat_map defined_names (unpicked_units vs s c)))) is
    ∙ search_finds (is_lost vs originals) (flat_map defined_names (unit_list (version_unit vs.ours s.ours))) name
    (ap (λ x. is_listed (flat_map defined_names (unit_list x)) name) unit ∙ listed_one defined_names u name ∙ has) lost)
    (none_lost s.choice (lost_at vs originals s) picked)
lost_in_ours vs originals name s i u place index here has lost Conflict is picked =
    no_conflict (lost_at vs originals s) (subst (λ c. IsPicked (kept_choice c (lost_at vs originals s))) is picked)

lost_in_theirs : (vs originals : Versions) (name : List ℕ) (s : Slot) (i : ℕ) (u : UnitReading) → IsPlace s (slots vs)
    → s.theirs ≡ Some i → slice_get vs.theirs.units i ≡ Some u → is_listed (defined_names u) name ≡ true
    → is_lost vs originals name ≡ true → (choice : Choice) → s.choice ≡ choice
    → IsPicked (kept_choice s.choice (lost_at vs originals s)) → ⊥
lost_in_theirs vs originals name s i u place index here has lost Theirs is picked =
    let unit : version_unit vs.theirs s.theirs ≡ Some u = ap (version_unit vs.theirs) index ∙ here in
    clash (is_listed (flat_map defined_names (units_at vs (slots vs))) name)
    (listed_place defined_names vs (slots vs) s name place
    (ap (λ c. is_listed (flat_map defined_names (picked_units vs s c)) name) is
    ∙ ap (λ x. is_listed (flat_map defined_names (unit_list x)) name) unit ∙ listed_one defined_names u name ∙ has))
    (lost_undefined vs originals name lost)
lost_in_theirs vs originals name s i u place index here has lost Ours is picked =
    let unit : version_unit vs.theirs s.theirs ≡ Some u = ap (version_unit vs.theirs) index ∙ here in
    clash (is_some (lost_at vs originals s))
    (ap (λ c. is_some (find (is_lost vs originals) (flat_map defined_names (unpicked_units vs s c)))) is
    ∙ search_finds (is_lost vs originals) (flat_map defined_names (unit_list (version_unit vs.theirs s.theirs))) name
    (ap (λ x. is_listed (flat_map defined_names (unit_list x)) name) unit ∙ listed_one defined_names u name ∙ has) lost)
    (none_lost s.choice (lost_at vs originals s) picked)
lost_in_theirs vs originals name s i u place index here has lost Conflict is picked =
    no_conflict (lost_at vs originals s) (subst (λ c. IsPicked (kept_choice c (lost_at vs originals s))) is picked)

false_unless : (b : Bool) → (b ≡ true → ⊥) → b ≡ false
false_unless false fails = refl
false_unless true fails = absurd (fails refl)

-- if a merge has no conflict, no unit of a side defines a lost name
pub lost_not_in_ours : (vs originals : Versions) → HavePlaces vs → IsClean (kept_slots vs originals) → (name : List ℕ)
    → is_lost vs originals name ≡ true → is_listed (flat_map defined_names vs.ours.units) name ≡ false
lost_not_in_ours vs originals places clean name lost =
    false_unless (is_listed (flat_map defined_names vs.ours.units) name)
    (λ has.
    let found = found_unit defined_names vs.ours.units name has in
    let place = places.ours found.index found.unit found.here in
    lost_in_ours vs originals name place.0 found.index found.unit place.1 place.2 found.here found.has lost place.0.choice refl
    (picked_place vs originals (slots vs) place.0 clean place.1))

pub lost_not_in_theirs : (vs originals : Versions) → HavePlaces vs → IsClean (kept_slots vs originals) → (name : List ℕ)
    → is_lost vs originals name ≡ true → is_listed (flat_map defined_names vs.theirs.units) name ≡ false
lost_not_in_theirs vs originals places clean name lost =
    false_unless (is_listed (flat_map defined_names vs.theirs.units) name)
    (λ has.
    let found = found_unit defined_names vs.theirs.units name has in
    let place = places.theirs found.index found.unit found.here in
    lost_in_theirs vs originals name place.0 found.index found.unit place.1 place.2 found.here found.has lost place.0.choice refl
    (picked_place vs originals (slots vs) place.0 clean place.1))

-- a name that a unit uses and no unit defines dangles
dangles_if : (units : List UnitReading) (name : List ℕ) → is_listed (flat_map names_used units) name ≡ true
    → is_listed (flat_map defined_names units) name ≡ false → dangles units name ≡ true
dangles_if units name uses defines = ap₂ (λ u d. u && not d) uses defines

-- if a merge has no conflict, each name that dangles in it dangles in one of its sides
pub dangled_before : (vs : Versions) → HavePlaces vs → IsClean (kept_slots vs vs) → (name : List ℕ)
    → dangles (units_at vs (kept_slots vs vs)) name ≡ true
    → (dangles vs.ours.units name ≡ true) ⊎ (dangles vs.theirs.units name ≡ true)
dangled_before vs places clean name is = by (dangles vs.ours.units name) refl (dangles vs.theirs.units name) refl
  where
    in_picked : dangles (units_at vs (slots vs)) name ≡ true
    in_picked = ap (λ us. dangles us name) (sym (kept_units vs vs (slots vs) clean)) ∙ is

    by : (ours : Bool) → dangles vs.ours.units name ≡ ours → (theirs : Bool) → dangles vs.theirs.units name ≡ theirs
        → (dangles vs.ours.units name ≡ true) ⊎ (dangles vs.theirs.units name ≡ true)
    by true is_ours theirs is_theirs = inl is_ours
    by false is_ours true is_theirs = inr is_theirs
    by false is_ours false is_theirs =
        let lost : is_lost vs vs name ≡ true =
        ap (λ x. x && (not (dangles vs.ours.units name) && not (dangles vs.theirs.units name))) in_picked
        ∙ ap₂ (λ x y. not x && not y) is_ours is_theirs in
        elim (merged_side names_used vs (slots vs) name
        (used_if (is_listed (flat_map names_used (units_at vs (slots vs))) name)
        (is_listed (flat_map defined_names (units_at vs (slots vs))) name) in_picked)) [
          | inl uses ↦ inl (dangles_if vs.ours.units name uses (lost_not_in_ours vs vs places clean name lost))
          | inr uses ↦ inr (dangles_if vs.theirs.units name uses (lost_not_in_theirs vs vs places clean name lost))
        ]
