-- Meaning: words of public contracts.
-- What a merge picks. Each part has a value in the common base and in each of the two sides, ours and theirs. Absence is a value, too.
use Rattle.std.specs.Prelude.{◌&&◌, ◌||◌, ℕ, Bool, true, false, not, List, [], ◌∷◌, ◌++◌, Option, Some, None, bytes_eq, cond, drop, filter, map}
use Rattle.std.specs.List.{before_first, list_any}
use Rattle.edit_versions.specs.Alike.{is_alike, is_same}
use Rattle.edit_versions.specs.Versions.{VersionReading, has_unit_named, is_repeated_name, named_index, own_part, version_names, version_unit}
use Rattle.edit_merge.specs.declared.picking.Choice.{Choice}
use Rattle.edit_merge.specs.declared.slots.Slot.{Slot}
use Rattle.edit_merge.specs.declared.picking.Choice.TheVariants.{Ours, Theirs, Conflict}

-- The choice between two sides. A side that is equal to the base has changed nothing, so the other side counts. If both changed, ours
-- counts if theirs is alike the base or alike ours, and theirs counts if ours is alike the base. Otherwise they conflict.
abbrev pub choose : Bool → Bool → Bool → Bool → Choice
choose theirs_same ours_same theirs_alike ours_alike =
    cond theirs_same Ours (cond ours_same Theirs (cond theirs_alike Ours (cond ours_alike Theirs Conflict)))

-- the versions of a file that are merged
pub record Versions : Type 0 where
  pub base : VersionReading
  pub ours : VersionReading
  pub theirs : VersionReading

-- the versions with the sides exchanged
abbrev pub exchanged : Versions → Versions
exchanged vs = record { base = vs.base; ours = vs.theirs; theirs = vs.ours }

-- the choice for the units at these indices
abbrev pub choice_at : Versions → Option ℕ → Option ℕ → Option ℕ → Choice
choice_at vs base ours theirs =
    let b = version_unit vs.base base in
    let o = version_unit vs.ours ours in
    let t = version_unit vs.theirs theirs in
    choose (is_same vs.theirs t vs.base b) (is_same vs.ours o vs.base b)
    (is_alike vs.theirs t vs.base b || is_alike vs.theirs t vs.ours o) (is_alike vs.ours o vs.base b)

-- ---- several units with one own name

-- whether two versions have the same unit with a name, or both have none
abbrev pub is_same_named : VersionReading → VersionReading → List ℕ → Bool
is_same_named v w name = is_same v (version_unit v (named_index v name)) w (version_unit w (named_index w name))

-- whether the units of two versions with a name are alike, or both have none
abbrev pub is_alike_named : VersionReading → VersionReading → List ℕ → Bool
is_alike_named v w name = is_alike v (version_unit v (named_index v name)) w (version_unit w (named_index w name))

-- whether a name has this own name, and two versions have different units with the name
abbrev pub is_changed_name : VersionReading → VersionReading → List ℕ → List ℕ → Bool
is_changed_name v w own name = bytes_eq (own_part name) own && not (is_same_named v w name)

-- whether the units with an own name differ in two versions
abbrev pub is_changed_group : VersionReading → VersionReading → List ℕ → Bool
is_changed_group v w own = list_any (is_changed_name v w own) (version_names v) || list_any (is_changed_name v w own) (version_names w)

-- whether several units of a version have this own name
abbrev pub is_repeated_in : Versions → List ℕ → Bool
is_repeated_in vs own = is_repeated_name vs.base own || is_repeated_name vs.ours own || is_repeated_name vs.theirs own

-- The choice for one of several units with an own name. They are chosen together: if one side changed none of them, those of the other side
-- count. Otherwise each that differs between the sides is a conflict.
abbrev pub group_choice : Versions → List ℕ → Option ℕ → Option ℕ → Choice
group_choice vs own ours theirs =
    choose (not (is_changed_group vs.theirs vs.base own)) (not (is_changed_group vs.ours vs.base own))
    (is_same vs.theirs (version_unit vs.theirs theirs) vs.ours (version_unit vs.ours ours)) false

-- the choice for the units with a name, which are at these indices
abbrev pub slot_choice : Versions → List ℕ → Option ℕ → Option ℕ → Option ℕ → Choice
slot_choice vs name base ours theirs =
    cond (is_repeated_in vs (own_part name)) (group_choice vs (own_part name) ours theirs) (choice_at vs base ours theirs)

-- the place of the units with a name
abbrev pub slot_of : Versions → List ℕ → Slot
slot_of vs name = record {
  base = named_index vs.base name;
  ours = named_index vs.ours name;
  theirs = named_index vs.theirs name;
  choice = slot_choice vs name (named_index vs.base name) (named_index vs.ours name) (named_index vs.theirs name);
}

-- ---- the order

-- whether two lists of names are equal
abbrev pub are_equal_names : List (List ℕ) → List (List ℕ) → Bool
are_equal_names [] [] = true
are_equal_names [] (n ∷ ns) = false
are_equal_names (n ∷ ns) [] = false
are_equal_names (n ∷ ns) (m ∷ ms) = bytes_eq n m && are_equal_names ns ms

-- whether the names that two versions share have the same order in both
abbrev pub is_alike_order : VersionReading → VersionReading → Bool
is_alike_order v w = are_equal_names (filter (has_unit_named w) (version_names v)) (filter (has_unit_named v) (version_names w))

-- whose order the merge has. If both sides changed the order, and differently, it is a conflict: the merge has ours
abbrev pub order_choice : Versions → Choice
order_choice vs =
    choose (are_equal_names (version_names vs.theirs) (version_names vs.base))
    (are_equal_names (version_names vs.ours) (version_names vs.base))
    (is_alike_order vs.theirs vs.base || is_alike_order vs.theirs vs.ours) (is_alike_order vs.ours vs.base)

-- the names of a version after the one at an index, or all of them if there is no index
abbrev pub names_behind : VersionReading → Option ℕ → List (List ℕ)
names_behind v None = version_names v
names_behind v (Some i) = drop 1 (drop i (version_names v))

-- the names of `other` after the one at an index, up to the first one that `main` has too
abbrev pub run_behind : VersionReading → VersionReading → Option ℕ → List (List ℕ)
run_behind main other index = before_first (has_unit_named main) (names_behind other index)

-- if `other` has a name at an index, the names of it that come before this name in the merge: those after the last name that both have
abbrev pub before_shared : VersionReading → VersionReading → Option ℕ → Option ℕ → List (List ℕ)
before_shared main other last None = []
before_shared main other last (Some i) = run_behind main other last

-- the index of the last name that both have: this one, or the one before
abbrev pub last_shared : Option ℕ → Option ℕ → Option ℕ
last_shared last None = last
last_shared last (Some i) = Some i

-- The names of two versions in one order: these names of the main one in its order, and before each name that both have, and at the end,
-- the names that only the other one has there. `last` is the index in the other one of the last name that both have.
abbrev pub woven : VersionReading → VersionReading → Option ℕ → List (List ℕ) → List (List ℕ)
woven main other last [] = run_behind main other last
woven main other last (name ∷ names) =
    before_shared main other last (named_index other name)
    ++ name ∷ woven main other (last_shared last (named_index other name)) names

-- the order of the merged names
abbrev pub order_by : Versions → Choice → List (List ℕ)
order_by vs Ours = woven vs.ours vs.theirs None (version_names vs.ours)
order_by vs Theirs = woven vs.theirs vs.ours None (version_names vs.theirs)
order_by vs Conflict = woven vs.ours vs.theirs None (version_names vs.ours)

-- the names of all units of both sides, in the order of the merge
abbrev pub merged_names : Versions → List (List ℕ)
merged_names vs = order_by vs (order_choice vs)

-- the places of all units of both sides, in the order of the merge
abbrev pub slots : Versions → List Slot
slots vs = map (slot_of vs) (merged_names vs)
