-- Meaning: words of public contracts.
-- The frame of a version is its text outside of the fields: the text around the entry, its type, its key and the comments in it. Frames are
-- compared without the white space and the commas between the fields.
use Rattle.std.specs.Prelude.{◌==◌, ◌&&◌, ◌||◌, not, ℕ, Bool, true, false, cond, length, List, [], ◌∷◌, ◌++◌, Option, Some, None, bytes_eq}
use Rattle.std.specs.Char.{is_ascii_whitespace}
use Rattle.bib_text.specs.Characters as char
use Rattle.bib_text.specs.Places.{between, place}
use Rattle.bib_syntax.specs.Grammar.{is_word}
use Rattle.bib_syntax.specs.Reading.{FieldReading}
use Rattle.edit_entry_merge.specs.Choices.{counting_side}
use Rattle.edit_entry_merge.specs.Versions.{Version, EntryVersions}
use Rattle.edit_entry_merge.specs.declared.choices.Side.{Side}
use Rattle.edit_entry_merge.specs.declared.choices.Side.TheVariants.{Ours, Theirs}

-- whether a byte is ASCII white space or a comma
abbrev pub is_layout_byte : ℕ → Bool
is_layout_byte b = is_ascii_whitespace b || b == char.comma

-- A text without the white space and the commas outside of its comments. A comment begins with a percent sign and ends with its line. The
-- flag says whether the text begins in a comment
abbrev pub without_layout : Bool → List ℕ → List ℕ
without_layout in_comment [] = []
without_layout true (b ∷ bs) = b ∷ without_layout (not (b == char.line_feed)) bs
without_layout false (b ∷ bs) = cond (is_layout_byte b) (without_layout false bs) (b ∷ without_layout (b == char.percent) bs)

-- the bytes from an offset to another one, outside of these fields
abbrev pub outside_of_fields : List ℕ → ℕ → List FieldReading → ℕ → List ℕ
outside_of_fields text at [] end = between (place text at) (place text end)
outside_of_fields text at (f ∷ fs) end = between (place text at) (place text f.name.start) ++ outside_of_fields text f.value.end fs end

-- the bytes of a version before its entry
abbrev pub text_before_entry : Version → List ℕ
text_before_entry v = between (place v.text 0) (place v.text v.entry.start)

-- the bytes of a version after its entry, from the closing brace on
abbrev pub text_behind_entry : Version → List ℕ
text_behind_entry v = between (place v.text v.entry.end) (place v.text (length v.text))

-- the bytes of an entry after its type and outside of its fields, without layout: the key, comments and the opening brace
abbrev pub inner_frame : Version → List ℕ
inner_frame v = without_layout false (outside_of_fields v.text v.entry.kind.end v.entry.fields v.entry.end)

-- whether two versions have alike frames: their types are equal, in any ASCII case, and their frames outside of the types are equal except
-- for white space and commas between the fields
abbrev pub are_alike_frames : Version → Version → Bool
are_alike_frames v w =
    is_word v.entry.kind.text w.entry.kind.text && bytes_eq (text_before_entry v) (text_before_entry w)
    && bytes_eq (text_behind_entry v) (text_behind_entry w) && bytes_eq (inner_frame v) (inner_frame w)

-- the byte offset at which the first of these fields begins, or this one if there is none
abbrev pub first_field_start : ℕ → List FieldReading → ℕ
first_field_start at [] = at
first_field_start at (f ∷ fs) = f.name.start

-- the bytes of a version before its first field
abbrev pub text_before_fields : Version → List ℕ
text_before_fields v = between (place v.text 0) (place v.text (first_field_start v.entry.end v.entry.fields))

-- whether two versions have alike frames, and the same bytes before the first field
abbrev pub are_same_frames : Version → Version → Bool
are_same_frames v w = bytes_eq (text_before_fields v) (text_before_fields w) && are_alike_frames v w

-- The side whose frame and layout count; none if the frames conflict. If there is a base, and one side has its frame with the same bytes
-- before the first field, the other side counts. So where all frames are alike, the layout of a side that changed it counts. Otherwise
-- the frames are compared without layout
abbrev pub choice_by_base : Version → Version → Version → Option Side
choice_by_base base ours theirs =
    cond (are_same_frames theirs base) (Some Ours)
    (cond (are_same_frames ours base) (Some Theirs)
    (counting_side (are_alike_frames theirs base) (are_alike_frames ours base) (are_alike_frames theirs ours)))

abbrev pub frame_choice_by : Option Version → Version → Version → Option Side
frame_choice_by None ours theirs = counting_side false false (are_alike_frames theirs ours)
frame_choice_by (Some base) ours theirs = choice_by_base base ours theirs

abbrev pub frame_choice : EntryVersions → Option Side
frame_choice vs = frame_choice_by vs.base vs.ours vs.theirs
