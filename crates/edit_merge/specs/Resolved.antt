-- Meaning: words of public contracts.
-- Merges whose conflicts are resolved: in place of each there is the unit of one side, or nothing if this side has none.
use Rattle.std.specs.Prelude.{ℕ, Bool, true, false, List, [], ◌∷◌, Option, Some, None, unwrap_or}
use Rattle.std.specs.List.{flat_map}
use Rattle.bib_syntax.specs.Reading.{FileReading, empty_reading}
use Rattle.edit_units.specs.Units.{UnitReading}
use Rattle.edit_versions.specs.Versions.{texts_at, version_unit}
use Rattle.edit_merge.specs.Clean.{contents_together, unit_content}
use Rattle.edit_merge.specs.Merged.{MergedPart, found_text, is_text_slot, part_with, slot_space, text_of_merge}
use Rattle.edit_merge.specs.Picked.{Versions}
use Rattle.edit_merge.specs.declared.picking.Choice.{Choice}
use Rattle.edit_merge.specs.declared.picking.Choice.TheVariants.{Ours, Theirs, Conflict}
use Rattle.edit_merge.specs.declared.slots.Slot.{Slot}

-- the text in place of the conflict at a place: that of theirs if the Bool is true, or that of ours
abbrev pub text_instead : Versions → Slot → Bool → List ℕ
text_instead vs s true = unwrap_or (found_text (texts_at vs.theirs s.theirs)) []
text_instead vs s false = unwrap_or (found_text (texts_at vs.ours s.ours)) []

-- the content of a unit, or no content if it isn't there
abbrev pub content_or_none : Option UnitReading → FileReading
content_or_none None = empty_reading
content_or_none (Some u) = u.says

-- the content of the text in place of the conflict at a place
abbrev pub content_instead : Versions → Slot → Bool → FileReading
content_instead vs s true = content_or_none (version_unit vs.theirs s.theirs)
content_instead vs s false = content_or_none (version_unit vs.ours s.ours)

-- the parts at a place: the picked unit, or the text in place of the conflict, which is that of theirs if the Bool is true
abbrev pub resolved_parts : Versions → Bool → Slot → Choice → List MergedPart
resolved_parts vs takes s Ours = part_with (slot_space vs s) (is_text_slot vs s) (found_text (texts_at vs.ours s.ours))
resolved_parts vs takes s Theirs = part_with (slot_space vs s) (is_text_slot vs s) (found_text (texts_at vs.theirs s.theirs))
resolved_parts vs takes s Conflict =
    record { space = slot_space vs s; text = text_instead vs s takes; is_text = is_text_slot vs s } ∷ []

-- the content at a place
abbrev pub resolved_at : Versions → Bool → Slot → Choice → List FileReading
resolved_at vs takes s Ours = unit_content (version_unit vs.ours s.ours)
resolved_at vs takes s Theirs = unit_content (version_unit vs.theirs s.theirs)
resolved_at vs takes s Conflict = content_instead vs s takes ∷ []

-- the text of a merge with these places, in which each conflict is resolved: to theirs if its place passes the test
abbrev pub resolved_text : Versions → (Slot → Bool) → List Slot → List ℕ
resolved_text vs takes ss = text_of_merge vs (flat_map (λ s. resolved_parts vs (takes s) s s.choice) ss)

-- its content
abbrev pub resolved_content : Versions → (Slot → Bool) → List Slot → FileReading
resolved_content vs takes ss = contents_together (flat_map (λ s. resolved_at vs (takes s) s s.choice) ss)
