-- Meaning: words of public contracts.
-- Which side a merge chooses. A part of an entry has a value in the base and in each of the two sides; its absence is a value, too.
use Rattle.std.specs.Prelude.{◌≡◌, ℕ, Bool, true, false, not, cond, codes, is_some, List, [], ◌∷◌, ◌++◌, filter, map, Option, Some, None, option_and_then, option_map, unwrap_or}
use Rattle.std.specs.Cmp.Lexicographic.{slice_cmp}
use Rattle.std.specs.List.{list_any}
use Rattle.std.specs.Option.{option_or}
use Rattle.std.specs.Ordering.{is_gt, nat_cmp}
use Rattle.bib_queries.specs.EqualValues.{are_equal_pieces}
use Rattle.bib_syntax.specs.Grammar.{is_word}
use Rattle.bib_syntax.specs.Reading.{FieldReading, Piece}
use Rattle.bib_syntax.specs.Reading.Piece.{literal}
use Rattle.edit_entry_merge.specs.Versions.{Version, EntryVersions, base_named, named}
use Rattle.edit_entry_merge.specs.declared.choices.Side.{Side}
use Rattle.edit_entry_merge.specs.declared.choices.Side.TheVariants.{Ours, Theirs}

-- The side that counts; none if they conflict. A side that is equal to the base has changed nothing, so the other side counts. If both
-- sides changed the part and are equal, ours counts. Otherwise they conflict.
abbrev pub counting_side : Bool → Bool → Bool → Option Side
counting_side theirs_is_base ours_is_base sides_are_equal =
    cond theirs_is_base (Some Ours) (cond ours_is_base (Some Theirs) (cond sides_are_equal (Some Ours) None))

-- whether two fields have equal values, or both are absent
abbrev pub are_equal_fields : Option FieldReading → Option FieldReading → Bool
are_equal_fields None None = true
are_equal_fields None (Some g) = false
are_equal_fields (Some f) None = false
are_equal_fields (Some f) (Some g) = are_equal_pieces f.value.pieces g.value.pieces

-- ---- modification times

-- the names of the fields in which programs write the time of the last change of an entry: JabRef writes `modificationdate`, earlier
-- versions of JabRef wrote `timestamp`, and BibDesk writes `date-modified`
abbrev pub modification_times : List (List ℕ)
modification_times = codes "modificationdate" ∷ codes "timestamp" ∷ codes "date-modified" ∷ []

-- whether a field with this name has the time of the last change of its entry; the name may be in any ASCII case
abbrev pub is_modification_time : List ℕ → Bool
is_modification_time name = list_any (is_word name) modification_times

-- the text of a value that is one literal
abbrev pub only_literal : List Piece → Option (List ℕ)
only_literal (literal p ∷ []) = Some p.text
only_literal _ = None

-- the text of a field whose value is one literal
abbrev pub only_text : Option FieldReading → Option (List ℕ)
only_text field = option_and_then (λ f. only_literal f.value.pieces) field

-- the side with the greater text, compared byte by byte; ours if the texts are equal
abbrev pub greater_side : List ℕ → List ℕ → Side
greater_side ours theirs = cond (is_gt (slice_cmp nat_cmp theirs ours)) Theirs Ours

-- the side with the greater text, if both have one
abbrev pub side_by_texts : Option (List ℕ) → Option (List ℕ) → Option Side
side_by_texts ours theirs = option_and_then (λ o. option_map (λ t. greater_side o t) theirs) ours

-- The side that counts for a modification time, given its name and the fields of both sides: the one with the greater text. That is
-- usually the later time. There is none for a field with another name, and if a side has no field or one whose value isn't one literal
abbrev pub time_choice : List ℕ → Option FieldReading → Option FieldReading → Option Side
time_choice name ours theirs = cond (is_modification_time name) (side_by_texts (only_text ours) (only_text theirs)) None

-- ---- fields

-- the side that counts for the field with a name. If both sides changed the field differently, only `time_choice` can give one
abbrev pub choice : EntryVersions → List ℕ → Option Side
choice vs name =
    option_or
    (counting_side (are_equal_fields (named name vs.theirs) (base_named name vs.base))
    (are_equal_fields (named name vs.ours) (base_named name vs.base))
    (are_equal_fields (named name vs.theirs) (named name vs.ours)))
    (time_choice name (named name vs.ours) (named name vs.theirs))

-- the versions with the sides exchanged
abbrev pub with_exchanged_sides : EntryVersions → EntryVersions
with_exchanged_sides vs = record { base = vs.base; ours = vs.theirs; theirs = vs.ours }

-- two versions have equal values for each name, or both have none
abbrev pub AreSameByName : Version → Version → Type 0
AreSameByName v w = (name : List ℕ) → are_equal_fields (named name v) (named name w) ≡ true

-- whether the field with a name conflicts: no side counts for it
abbrev pub is_conflict : EntryVersions → List ℕ → Bool
is_conflict vs name = not (is_some (choice vs name))

-- whether a version has a field with a name, in any ASCII case
abbrev pub has_field_named : List ℕ → Version → Bool
has_field_named name v = is_some (named name v)

-- the fields of both sides, each name once: those of ours in their order, then those that only theirs has
abbrev pub fields_of_sides : EntryVersions → List FieldReading
fields_of_sides vs = vs.ours.entry.fields ++ filter (λ f. not (has_field_named f.name.text vs.ours)) vs.theirs.entry.fields

-- the names of the fields that conflict
abbrev pub conflicts : EntryVersions → List (List ℕ)
conflicts vs = map (λ f. f.name.text) (filter (λ f. is_conflict vs f.name.text) (fields_of_sides vs))

-- the version of a side
abbrev pub version_at : EntryVersions → Side → Version
version_at vs Ours = vs.ours
version_at vs Theirs = vs.theirs

-- the other side
abbrev pub other_side : Side → Side
other_side Ours = Theirs
other_side Theirs = Ours

-- whether two sides are different
abbrev pub are_different_sides : Side → Side → Bool
are_different_sides Ours Ours = false
are_different_sides Ours Theirs = true
are_different_sides Theirs Ours = true
are_different_sides Theirs Theirs = false

-- whether a side other than `main` counts for the field with a name, if a conflict is resolved to `prefer`
abbrev pub takes_other : EntryVersions → Side → Side → List ℕ → Bool
takes_other vs main prefer name = are_different_sides main (unwrap_or (choice vs name) prefer)
