-- Machinery: words of private contracts.
-- The names that units use and define, as sets.
use Rattle.std.specs.Prelude.{◌≡◌, ◌&&◌, ◌||◌, not, ℕ, Bool, List, Option}
use Rattle.std.specs.BTreeSet.{contains_text}
use Rattle.std.specs.List.{find, flat_map}
use Rattle.bib_queries.specs.Needed.{is_listed}
use Rattle.edit_units.specs.Units.{UnitReading}
use Rattle.edit_merge.specs.Lost.{kept_choice, units_at, unpicked_units}
use Rattle.edit_merge.specs.Picked.{Versions, slots}
use Rattle.edit_merge.specs.UnitNames.{defined_names, names_used}
use Rattle.edit_merge.specs.declared.lost.NameSets.{NameSets}
use Rattle.edit_merge.specs.declared.lost.MergeNames.{MergeNames}
use Rattle.edit_merge.specs.declared.slots.Slot.{Slot}

-- sets have the names of units
pub record HaveNames (units : List UnitReading) (sets : NameSets) : Type 0 where
  pub used : (name : List ℕ) → contains_text sets.used name ≡ is_listed (flat_map names_used units) name
  pub defined : (name : List ℕ) → contains_text sets.defined name ≡ is_listed (flat_map defined_names units) name

-- sets have the names that they had before, and those of units
pub record AreAdded (units : List UnitReading) (before after : NameSets) : Type 0 where
  pub used : (name : List ℕ)
      → contains_text after.used name ≡ (contains_text before.used name || is_listed (flat_map names_used units) name)
  pub defined : (name : List ℕ)
      → contains_text after.defined name ≡ (contains_text before.defined name || is_listed (flat_map defined_names units) name)

-- the names of the picked units, and of both sides of `originals`
pub record AreSideNames (vs originals : Versions) (names : MergeNames) : Type 0 where
  pub picked : HaveNames (units_at vs (slots vs)) names.picked
  pub ours : HaveNames originals.ours.units names.ours
  pub theirs : HaveNames originals.theirs.units names.theirs

-- whether a name is in the first set of two sets only
abbrev pub is_dangling : NameSets → List ℕ → Bool
is_dangling sets name = contains_text sets.used name && not (contains_text sets.defined name)

-- whether a name is lost, by the sets
abbrev pub is_lost_by : MergeNames → List ℕ → Bool
is_lost_by names name = is_dangling names.picked name && (not (is_dangling names.ours name) && not (is_dangling names.theirs name))

-- the first lost name, by the sets, that is defined in the unit at a place that isn't picked
abbrev pub lost_by : MergeNames → Versions → Slot → Option (List ℕ)
lost_by names vs s = find (is_lost_by names) (flat_map defined_names (unpicked_units vs s s.choice))

-- a place, which is a conflict if the unit that isn't picked defines a lost name, by the sets
abbrev pub kept_by : MergeNames → Versions → Slot → Slot
kept_by names vs s = record s { choice = kept_choice s.choice (lost_by names vs s) }
