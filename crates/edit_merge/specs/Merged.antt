-- Meaning: words of public contracts.
-- The text of a merge: the picked units with white space between them. A conflict has the texts of both sides as one, with marker lines
-- around the lines in which they differ.
use Rattle.std.specs.Prelude.{◌==◌, ◌&&◌, ℕ, Bool, false, true, not, List, [], ◌∷◌, ◌++◌, Option, Some, None, bytes_eq, codes, cond, drop, length, max, option_map, unwrap_or}
use Rattle.std.specs.List.{flat_map, list_any}
use Rattle.bib_text.specs.Characters as char
use Rattle.edit_entry_merge.specs.ConflictTexts.{MarkerLines, conflict_text}
use Rattle.edit_units.specs.Units.{UnitReading, UnitTexts}
use Rattle.edit_versions.specs.Versions.{VersionReading, end_of, texts_at, version_unit}
use Rattle.edit_merge.specs.Picked.{Versions}
use Rattle.edit_merge.specs.declared.picking.Choice.{Choice}
use Rattle.edit_merge.specs.declared.slots.Slot.{Slot}
use Rattle.edit_merge.specs.declared.picking.Choice.TheVariants.{Ours, Theirs, Conflict}

-- ---- white space

-- whether the base has this white space
abbrev pub is_same_space : Option (List ℕ) → List ℕ → Bool
is_same_space None space = false
is_same_space (Some base) space = bytes_eq space base

-- the white space of the side that changed it, or of ours if both did. If only one side has some, it is that of this side
abbrev pub picked_space : Option (List ℕ) → Option (List ℕ) → Option (List ℕ) → Option (List ℕ)
picked_space b None t = t
picked_space b (Some o) None = Some o
picked_space b (Some o) (Some t) = Some (cond (is_same_space b o) t o)

-- the index of a unit with another unit before it: this one, or the second one in place of the first
abbrev pub later_index : Option ℕ → Option ℕ
later_index None = None
later_index (Some i) = Some (max i 1)

-- the white space before the unit at an index, or after it if it is the first unit; if there is another unit
abbrev pub space_at : VersionReading → Option ℕ → Option (List ℕ)
space_at v index = option_map (λ p. p.space) (texts_at v (later_index index))

-- the white space before the units of a slot: a blank line if no version has some
abbrev pub slot_space : Versions → Slot → List ℕ
slot_space vs s =
    unwrap_or (picked_space (space_at vs.base s.base) (space_at vs.ours s.ours) (space_at vs.theirs s.theirs)) (codes "\n\n")

-- the white space before the first unit of a version, if it has units
abbrev pub start_of : VersionReading → Option (List ℕ)
start_of v = option_map (λ p. p.space) (texts_at v (Some 0))

-- the white space after the last unit of a version, if it has units
abbrev pub end_behind : VersionReading → Option (List ℕ)
end_behind v = option_map (λ u. end_of v) (version_unit v (Some 0))

-- the white space before the first part
abbrev pub merged_start : Versions → List ℕ
merged_start vs = unwrap_or (picked_space (start_of vs.base) (start_of vs.ours) (start_of vs.theirs)) []

-- the white space after the last part
abbrev pub merged_end : Versions → List ℕ
merged_end vs = unwrap_or (picked_space (end_behind vs.base) (end_behind vs.ours) (end_behind vs.theirs)) []

-- the text of a merge without units: the white space at the end of the side that changed it, or of ours if both did
abbrev pub merged_blank : Versions → List ℕ
merged_blank vs = cond (bytes_eq (end_of vs.ours) (end_of vs.base)) (end_of vs.theirs) (end_of vs.ours)

-- ---- the parts

-- a part of the merged text: white space, and a text after it. `is_text` is whether its units have no block
pub record MergedPart : Type 0 where
  pub space : List ℕ
  pub text : List ℕ
  pub is_text : Bool

-- whether a unit has no block, or is absent
abbrev pub is_without_blocks : Option UnitReading → Bool
is_without_blocks None = true
is_without_blocks (Some u) = length u.blocks == 0

-- whether the units of a slot have no block
abbrev pub is_text_slot : Versions → Slot → Bool
is_text_slot vs s = is_without_blocks (version_unit vs.ours s.ours) && is_without_blocks (version_unit vs.theirs s.theirs)

-- the text of a unit, if it is there
abbrev pub found_text : Option UnitTexts → Option (List ℕ)
found_text found = option_map (λ p. p.text) found

-- the text of a slot, or `None` if what is picked is absent
abbrev pub slot_text : MarkerLines → Versions → Slot → Choice → Option (List ℕ)
slot_text markers vs s Ours = found_text (texts_at vs.ours s.ours)
slot_text markers vs s Theirs = found_text (texts_at vs.theirs s.theirs)
slot_text markers vs s Conflict =
    Some (conflict_text markers (found_text (texts_at vs.ours s.ours)) (found_text (texts_at vs.theirs s.theirs)))

-- the part of a text, if it is there
abbrev pub part_with : List ℕ → Bool → Option (List ℕ) → List MergedPart
part_with space is_text None = []
part_with space is_text (Some text) = record { space = space; text = text; is_text = is_text } ∷ []

-- the merged parts of a slot: one, or none if what is picked is absent
abbrev pub slot_parts : MarkerLines → Versions → Slot → List MergedPart
slot_parts markers vs s = part_with (slot_space vs s) (is_text_slot vs s) (slot_text markers vs s s.choice)

-- the merged parts of these slots, in order
abbrev pub merged_parts : MarkerLines → Versions → List Slot → List MergedPart
merged_parts markers vs ss = flat_map (slot_parts markers vs) ss

-- ---- the text

-- whether a text has a line feed
abbrev pub has_feed : List ℕ → Bool
has_feed text = list_any (λ b. b == char.line_feed) text

-- The white space between two parts, which begins with a line feed. After units without blocks it has a blank line, so that the next part
-- doesn't belong to the same unit.
abbrev pub space_between : Bool → List ℕ → List ℕ
space_between is_text space = cond (is_text && not (has_feed (drop 1 space))) (char.line_feed ∷ space) space

-- the text of parts after a part
abbrev pub text_behind : Bool → List MergedPart → List ℕ → List ℕ
text_behind is_text [] end = end
text_behind is_text (p ∷ ps) end = space_between is_text p.space ++ (p.text ++ text_behind p.is_text ps end)

-- the text of all parts
abbrev pub text_of_merge : Versions → List MergedPart → List ℕ
text_of_merge vs [] = merged_blank vs
text_of_merge vs (p ∷ ps) = merged_start vs ++ (p.text ++ text_behind p.is_text ps (merged_end vs))

-- the merged text, given the places of its units
abbrev pub merged_text : MarkerLines → Versions → List Slot → List ℕ
merged_text markers vs ss = text_of_merge vs (merged_parts markers vs ss)
