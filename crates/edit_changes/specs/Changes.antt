-- Meaning: words of public contracts.
-- The changes from one version of a file to another one.
use Rattle.std.specs.Prelude.{◌||◌, ℕ, Bool, true, false, List, [], ◌∷◌, ◌++◌, Option, Some, None, bytes_eq, cond, filter, is_some, map, slice_get}
use Rattle.std.specs.Cmp.Lexicographic.{pointwise}
use Rattle.std.specs.List.{enumerate_from, flat_map}
use Rattle.bib_queries.specs.EqualValues.{are_equal_texts}
use Rattle.bib_syntax.specs.Grammar.{is_word}
use Rattle.edit_units.specs.Units.{UnitReading}
use Rattle.edit_versions.specs.Alike.{is_same}
use Rattle.edit_versions.specs.Versions.{VersionReading, has_unit_named, named_index, text_of_unit, version_names, version_unit}
use Rattle.edit_changes.specs.Blocks.{BlockReading, block_of, text_outside}
use Rattle.edit_changes.specs.Fields.{changes_of_fields}
use Rattle.edit_changes.specs.Renames.{lone_contents, renamed_index}
use Rattle.edit_changes.specs.declared.changes.Change.{Change}
use Rattle.edit_changes.specs.declared.changes.Change.TheVariants.{Added, CommentsSet, FieldAdded, FieldRemoved, FieldSet, LayoutSet, Removed, Renamed, Reordered, TextSet, TypeSet}
use Rattle.edit_changes.specs.declared.changes.Place.{Place}

-- whether a change is one of the layout only
abbrev pub is_layout : Change → Bool
is_layout (LayoutSet place) = true
is_layout (Removed old) = false
is_layout (Added new) = false
is_layout (Renamed place) = false
is_layout (TypeSet place) = false
is_layout (FieldRemoved place old) = false
is_layout (FieldAdded place new) = false
is_layout (FieldSet place old new) = false
is_layout (CommentsSet place) = false
is_layout (TextSet place) = false
is_layout Reordered = false

-- ---- the content of one unit

-- a change of a text, unless both texts are the same if each run of ASCII white space is one space
abbrev pub text_changes : Place → List ℕ → List ℕ → List Change
text_changes place text other = cond (are_equal_texts text other) [] (TextSet place ∷ [])

-- a change of the type, unless both types are equal in any ASCII case
abbrev pub type_changes : Place → List ℕ → List ℕ → List Change
type_changes place kind other = cond (is_word kind other) [] (TypeSet place ∷ [])

-- a change of comments, unless they are the same
abbrev pub comment_change : Place → Bool → List Change
comment_change place is_same = cond is_same [] (CommentsSet place ∷ [])

-- the changes from a unit of a text to one of another text, given their blocks: of the type, of comments and of fields, or if one of them
-- has no such block, of the whole unit
abbrev pub changes_by : Place → List ℕ → UnitReading → Option BlockReading → List ℕ → UnitReading → Option BlockReading → List Change
changes_by place text u None other w c = text_changes place (text_of_unit text u) (text_of_unit other w)
changes_by place text u (Some b) other w None = text_changes place (text_of_unit text u) (text_of_unit other w)
changes_by place text u (Some b) other w (Some c) =
    type_changes place b.kind c.kind ++ comment_change place (bytes_eq (text_outside text u b) (text_outside other w c))
    ++ changes_of_fields place b.fields c.fields

-- the changes of the content of a unit, except for its key
abbrev pub unit_changes : Place → VersionReading → Option UnitReading → VersionReading → Option UnitReading → List Change
unit_changes place v None w x = []
unit_changes place v (Some u) w None = []
unit_changes place v (Some u) w (Some x) = changes_by place v.text u (block_of u) w.text x (block_of x)

-- the changes of the content of the units at a place, except for their keys
abbrev pub content_changes : Place → VersionReading → VersionReading → List Change
content_changes place v w = unit_changes place v (version_unit v (Some place.old)) w (version_unit w (Some place.new))

-- these changes, or a change of the layout if there are none
abbrev pub or_layout : Place → List Change → List Change
or_layout place [] = LayoutSet place ∷ []
or_layout place (change ∷ changes) = change ∷ changes

-- the changes of the units at a place: none if their bytes are equal
abbrev pub changes_at : Place → VersionReading → VersionReading → List Change
changes_at place v w =
    cond (is_same v (version_unit v (Some place.old)) w (version_unit w (Some place.new))) [] (or_layout place (content_changes place v w))

-- ---- all units

-- the index in the new version of the entry that the unit at an index of the old version was renamed to, if there is one
abbrev pub renamed_to : VersionReading → VersionReading → ℕ → Option ℕ
renamed_to v w i = renamed_index (lone_contents v w) (lone_contents w v) (slice_get (lone_contents v w) i)

-- the index in the old version of the entry that the unit at an index of the new version was renamed from, if there is one
abbrev pub renamed_from : VersionReading → VersionReading → ℕ → Option ℕ
renamed_from v w j = renamed_index (lone_contents w v) (lone_contents v w) (slice_get (lone_contents w v) j)

-- for each unit of the old version, the index in the new version of the entry that it was renamed to, if there is one
abbrev pub renamed_indices : VersionReading → VersionReading → List (Option ℕ)
renamed_indices v w = map (λ x. renamed_to v w x.0) (enumerate_from 0 (version_names v))

-- the change at a unit of the old version, given its index and name: it is removed, unless the new version has the name or the unit was
-- renamed
abbrev pub removed_unit : VersionReading → VersionReading → ℕ × List ℕ → List Change
removed_unit v w x = cond (has_unit_named w x.1 || is_some (renamed_to v w x.0)) [] (Removed x.0 ∷ [])

-- the changes at the unit at an index of the new version whose name the old version lacks: it was renamed from a unit, or is added
abbrev pub lone_changes : VersionReading → VersionReading → ℕ → Option ℕ → List Change
lone_changes v w new None = Added new ∷ []
lone_changes v w new (Some old) =
    Renamed (record { old = old; new = new }) ∷ content_changes (record { old = old; new = new }) v w

-- the changes from the unit at an index of the old version, if there is one, to that at an index of the new version
abbrev pub changes_from : VersionReading → VersionReading → ℕ → Option ℕ → List Change
changes_from v w new None = lone_changes v w new (renamed_from v w new)
changes_from v w new (Some old) = changes_at (record { old = old; new = new }) v w

-- the changes at a unit of the new version, given its index and name: from the unit of the old version with this name
abbrev pub present_unit : VersionReading → VersionReading → ℕ × List ℕ → List Change
present_unit v w x = changes_from v w x.0 (named_index v x.1)

-- the names that a version shares with another one
abbrev pub shared_names : VersionReading → VersionReading → List (List ℕ)
shared_names v w = filter (has_unit_named w) (version_names v)

-- a change of the order, unless the names that two versions share have the same order in both
abbrev pub order_changes : VersionReading → VersionReading → List Change
order_changes v w = cond (pointwise bytes_eq (shared_names v w) (shared_names w v)) [] (Reordered ∷ [])

-- the changes from an old version to a new one: the removed units in their order, the changes of the units of the new version in their
-- order, and a change of the order
abbrev pub changes : VersionReading → VersionReading → List Change
changes v w =
    flat_map (removed_unit v w) (enumerate_from 0 (version_names v)) ++ flat_map (present_unit v w) (enumerate_from 0 (version_names w))
    ++ order_changes v w
