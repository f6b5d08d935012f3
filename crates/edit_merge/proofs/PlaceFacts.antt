-- Each unit of both sides has a place in a merge.
use Rattle.std.proofs.Common.{◌≡◌, inl, inr, ℕ, zero, suc, ◌<◌, ◌^◌, arith, List, [], ◌∷◌, Option, Some, None, length, map, refl, sym, ap, ◌∙◌}
use Rattle.std.specs.Prelude.{slice_get}
use Rattle.std.proofs.lemmas.List.{length-map}
use Rattle.edit_units.specs.Units.{UnitReading}
use Rattle.edit_versions.proofs.IndexFacts.{IsAmong, names_lead_to_units}
use Rattle.edit_versions.specs.Versions.{VersionReading, own_name, version_names}
use Rattle.edit_merge.specs.Picked.{Versions, merged_names, slot_of, slots}
use Rattle.edit_merge.specs.declared.slots.Slot.{Slot}
use Rattle.edit_merge.proofs.KeptFacts.{HavePlaces, IsPlace}
use Rattle.edit_merge.proofs.PickedFacts.{among_at, names_long}
use Rattle.edit_merge.proofs.WovenFacts.{among_contained, contained, our_units_have_places, their_units_have_places}

-- a list that is as long as another one has something at each index of it
there_too : (names : List (List ℕ)) (units : List UnitReading) (i : ℕ) (u : UnitReading) → length names ≡ length units
    → slice_get units i ≡ Some u → (name : List ℕ) × (slice_get names i ≡ Some name)
there_too names [] i u long is = absurd (cc)
there_too [] (v ∷ vs) i u long is = absurd (omega (arith, long))
there_too (n ∷ ns) (v ∷ vs) zero u long is = (n, refl)
there_too (n ∷ ns) (v ∷ vs) (suc i) u long is = there_too ns vs i u (let left : length ns ≡ length vs = omega (arith, long) in left) is

place_of : (vs : Versions) (names : List (List ℕ)) (name : List ℕ) → IsAmong name names → IsPlace (slot_of vs name) (map (slot_of vs) names)
place_of vs [] name here = absurd here
place_of vs (n ∷ ns) name (inl same) = inl (ap (slot_of vs) same)
place_of vs (n ∷ ns) name (inr here) = inr (place_of vs ns name here)

-- the name of a unit at an index
name_at : (v : VersionReading) (i : ℕ) (u : UnitReading) → slice_get v.units i ≡ Some u
    → (name : List ℕ) × (slice_get (version_names v) i ≡ Some name)
name_at v i u is =
    there_too (version_names v) v.units i u (names_long [] (map (own_name v.text) v.units) ∙ length-map v.units (own_name v.text)) is

pub have_places : (vs : Versions) → length vs.ours.units < 2 ^ 64 → length vs.theirs.units < 2 ^ 64 → HavePlaces vs
have_places vs fits fits' = record {
  ours = λ i u is.
      let name = name_at vs.ours i u is in
      let among = among_contained (merged_names vs) name.0 (our_units_have_places vs fits fits' name.0
      (contained (version_names vs.ours) name.0 (among_at (version_names vs.ours) i name.0 name.1))) in
      (slot_of vs name.0, place_of vs (merged_names vs) name.0 among, names_lead_to_units vs.ours fits i name.0 name.1);
  theirs = λ i u is.
      let name = name_at vs.theirs i u is in
      let among = among_contained (merged_names vs) name.0 (their_units_have_places vs fits fits' name.0
      (contained (version_names vs.theirs) name.0 (among_at (version_names vs.theirs) i name.0 name.1))) in
      (slot_of vs name.0, place_of vs (merged_names vs) name.0 among, names_lead_to_units vs.theirs fits' i name.0 name.1);
}
