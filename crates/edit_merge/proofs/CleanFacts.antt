-- The text of a merge without a conflict is the text of a file.
use Rattle.std.proofs.Common.{◌≡◌, inl, inr, ℕ, zero, suc, ◌<◌, arith, codes, Bool, true, false, cond, List, [], ◌∷◌, ◌++◌, Option, Some, None, refl, sym, ap, ◌∙◌, subst, append_assoc}
use Rattle.std.specs.Prelude.{◌&&◌, bytes_eq, drop, max, not, option_map, slice_get, unwrap_or}
use Rattle.std.specs.List.{AllByRecursion, flat_map}
use Rattle.bib_syntax.specs.Reading.{FileReading, then}
use Rattle.edit_entries.specs.Changes.{IsReadPlaceless}
use Rattle.edit_units.specs.Parts.{AreParts, FilePart, IsFileEnd, IsLineEnd, IsNextPart, IsWhite, parts_from, parts_together, text_of_parts}
use Rattle.edit_units.specs.Units.{AreUnits, UnitReading, UnitTexts, texts_from}
use Rattle.edit_units.proofs.CutFacts.{units_are_parts}
use Rattle.edit_units.proofs.JoinFacts.{parts_are_read}
use Rattle.edit_versions.specs.Versions.{VersionReading, end_of, texts_at, version_texts, version_unit}
use Rattle.edit_merge.specs.Clean.{HaveUnits, IsClean, IsPicked, contents_together, merged_content, picked_content, unit_content}
use Rattle.edit_entry_merge.specs.ConflictTexts.{MarkerLines}
use Rattle.edit_merge.specs.Merged.{MergedPart, end_behind, has_feed, is_same_space, is_text_slot, merged_blank, merged_end, merged_start, merged_text, part_with, picked_space, slot_parts, slot_space, slot_text, space_at, space_between, start_of, text_behind, text_of_merge}
use Rattle.edit_merge.specs.Picked.{Versions}
use Rattle.edit_merge.specs.Resolved.{content_or_none, resolved_at, resolved_content, resolved_parts, resolved_text}
use Rattle.edit_merge.specs.declared.picking.Choice.{Choice}
use Rattle.edit_merge.specs.declared.picking.Choice.TheVariants.{Ours, Theirs, Conflict}
use Rattle.edit_merge.specs.declared.slots.Slot.{Slot}

-- ---- white space

line_end_white : {text : List ℕ} → IsLineEnd text → IsWhite text
line_end_white (IsLineEnd.feed white) = white

between_ends : (is_text : Bool) (space : List ℕ) → IsLineEnd space → IsLineEnd (space_between is_text space)
between_ends is_text space ends = by (is_text && not (has_feed (drop 1 space)))
  where
    by : (more : Bool) → IsLineEnd (cond more (10 ∷ space) space)
    by true = IsLineEnd.feed (line_end_white ends)
    by false = ends

file_end_white : {end : List ℕ} → IsFileEnd end → IsWhite end
file_end_white (inl empty) = subst IsWhite (sym empty) refl
file_end_white (inr line) = line_end_white line

-- each text that is there has a property
data IfThere (P : List ℕ → Type 0) : Option (List ℕ) → Type 0 where
  absent : IfThere P None
  there : {text : List ℕ} → P text → IfThere P (Some text)

picked_has : (P : List ℕ → Type 0) (b : Option (List ℕ)) {o t : Option (List ℕ)} → IfThere P o → IfThere P t
    → IfThere P (picked_space b o t)
picked_has P b IfThere.absent theirs = theirs
picked_has P b (IfThere.there ours) IfThere.absent = IfThere.there ours
picked_has P b (IfThere.there {text = o} ours) (IfThere.there {text = t} theirs) = IfThere.there (by (is_same_space b o))
  where
    by : (same : Bool) → P (cond same t o)
    by true = theirs
    by false = ours

or_empty : {o : Option (List ℕ)} → IfThere IsWhite o → IsWhite (unwrap_or o [])
or_empty IfThere.absent = refl
or_empty (IfThere.there white) = white

or_no_end : {o : Option (List ℕ)} → IfThere IsFileEnd o → IsFileEnd (unwrap_or o [])
or_no_end IfThere.absent = inl refl
or_no_end (IfThere.there end) = end

or_blank_line : {o : Option (List ℕ)} → IfThere IsLineEnd o → IsLineEnd (unwrap_or o (codes "\n\n"))
or_blank_line IfThere.absent = IsLineEnd.feed refl
or_blank_line (IfThere.there end) = end

-- ---- the units of a version

-- texts with the contents of units, one by one
data AreRead : List UnitReading → List UnitTexts → Type 0 where
  none : AreRead [] []
  some : {u : UnitReading} {us : List UnitReading} {t : UnitTexts} {ts : List UnitTexts} → IsReadPlaceless u.says t.text → AreRead us ts
      → AreRead (u ∷ us) (t ∷ ts)

-- the white space before each of these units begins with a line feed
abbrev AreNext : List UnitTexts → Type 0
AreNext ts = AllByRecursion (λ t. IsLineEnd t.space) ts

-- the units of a version as texts: their contents, and the white space before them
record AreVersionTexts (us : List UnitReading) (ts : List UnitTexts) : Type 0 where
  read : AreRead us ts
  start : IfThere IsWhite (option_map (λ t. t.space) (slice_get ts 0))
  next : AreNext (drop 1 ts)

next_read : (text : List ℕ) (at : ℕ) (us : List UnitReading) → AllByRecursion IsNextPart (parts_from text at us)
    → AreRead us (texts_from text at us) × AreNext (texts_from text at us)
next_read text at [] all = (AreRead.none, _)
next_read text at (u ∷ us) all =
    let rest = next_read text u.end us all.1 in (AreRead.some all.0.read rest.0, (all.0.space, rest.1))

texts_read : (text : List ℕ) (at : ℕ) (us : List UnitReading) (end : List ℕ) → AreParts (parts_from text at us) end
    → AreVersionTexts us (texts_from text at us)
texts_read text at [] end are = record { read = AreRead.none; start = IfThere.absent; next = _ }
texts_read text at (u ∷ us) end (AreParts.some white read all is_end) =
    let rest = next_read text u.end us all in
    record { read = AreRead.some read rest.0; start = IfThere.there white; next = rest.1 }

version_read : (v : VersionReading) → AreUnits v.text v.units → AreVersionTexts v.units (version_texts v)
version_read v are = texts_read v.text 0 v.units (end_of v) (units_are_parts v.text v.units are).are

-- the text after the units of a version, if it has units
ends_of : (us : List UnitReading) (ps : List FilePart) (end : List ℕ) → AreParts ps end
    → (ps ≡ [] → us ≡ []) → IfThere IsFileEnd (option_map (λ u. end) (slice_get us 0))
ends_of [] ps end are empty = IfThere.absent
ends_of (u ∷ us) [] end are empty = absurd (let same : u ∷ us ≡ [] = empty refl in cc)
ends_of (u ∷ us) (p ∷ ps) end (AreParts.some white read all is_end) empty = IfThere.there is_end

no_parts : (text : List ℕ) (at : ℕ) (us : List UnitReading) → parts_from text at us ≡ [] → us ≡ []
no_parts text at [] is = refl
no_parts text at (u ∷ us) is = absurd (cc)

end_there : (v : VersionReading) → AreUnits v.text v.units → IfThere IsFileEnd (end_behind v)
end_there v are =
    ends_of v.units (parts_from v.text 0 v.units) (end_of v) (units_are_parts v.text v.units are).are (no_parts v.text 0 v.units)

end_white : (v : VersionReading) → AreUnits v.text v.units → IsWhite (end_of v)
end_white v are = by (parts_from v.text 0 v.units) (end_of v) (units_are_parts v.text v.units are).are
  where
    by : (ps : List FilePart) (end : List ℕ) → AreParts ps end → IsWhite end
    by [] end (AreParts.none white) = white
    by (p ∷ ps) end (AreParts.some white read all is_end) = file_end_white is_end

-- a unit and its texts, if there are both
data IsReadAt : Option UnitReading → Option UnitTexts → Type 0 where
  absent : IsReadAt None None
  there : {u : UnitReading} {t : UnitTexts} → IsReadPlaceless u.says t.text → IsReadAt (Some u) (Some t)

read_at : (us : List UnitReading) (ts : List UnitTexts) (i : ℕ) → AreRead us ts → IsReadAt (slice_get us i) (slice_get ts i)
read_at [] [] i AreRead.none = IsReadAt.absent
read_at [] (t ∷ ts) i read = elim read [ ]
read_at (u ∷ us) [] i read = elim read [ ]
read_at (u ∷ us) (t ∷ ts) zero (AreRead.some read rest) = IsReadAt.there read
read_at (u ∷ us) (t ∷ ts) (suc i) (AreRead.some read rest) = read_at us ts i rest

unit_read : (v : VersionReading) (index : Option ℕ) → AreUnits v.text v.units → IsReadAt (version_unit v index) (texts_at v index)
unit_read v None are = IsReadAt.absent
unit_read v (Some i) are = read_at v.units (version_texts v) i (version_read v are).read

next_at : (ts : List UnitTexts) (i : ℕ) → AreNext ts → IfThere IsLineEnd (option_map (λ t. t.space) (slice_get ts i))
next_at [] i next = IfThere.absent
next_at (t ∷ ts) zero next = IfThere.there next.0
next_at (t ∷ ts) (suc i) next = next_at ts i next.1

-- the white space before each unit after the first one
later_at : (ts : List UnitTexts) (i : ℕ) → 0 < i → AreNext (drop 1 ts) → IfThere IsLineEnd (option_map (λ t. t.space) (slice_get ts i))
later_at ts zero later next = absurd (omega (arith, later))
later_at [] (suc i) later next = IfThere.absent
later_at (t ∷ ts) (suc i) later next = next_at ts i next

space_ends : (v : VersionReading) (index : Option ℕ) → AreUnits v.text v.units → IfThere IsLineEnd (space_at v index)
space_ends v None are = IfThere.absent
space_ends v (Some i) are = later_at (version_texts v) (max i 1) (omega arith) (version_read v are).next

-- ---- the parts of a merge

-- a part: white space that begins with a line feed, and a text with a content
record IsPartRead (p : MergedPart) (says : FileReading) : Type 0 where
  space : IsLineEnd p.space
  text : IsReadPlaceless says p.text

-- parts and contents, one by one
data ArePartsRead : List MergedPart → List FileReading → Type 0 where
  none : ArePartsRead [] []
  some : {p : MergedPart} {ps : List MergedPart} {says : FileReading} {rest : List FileReading} → IsPartRead p says → ArePartsRead ps rest
      → ArePartsRead (p ∷ ps) (says ∷ rest)

parts_append : {ps qs : List MergedPart} {ss ts : List FileReading} → ArePartsRead ps ss → ArePartsRead qs ts
    → ArePartsRead (ps ++ qs) (ss ++ ts)
parts_append ArePartsRead.none second = second
parts_append (ArePartsRead.some read rest) second = ArePartsRead.some read (parts_append rest second)

part_read : (space : List ℕ) (is_text : Bool) {u : Option UnitReading} {t : Option UnitTexts} → IsLineEnd space → IsReadAt u t
    → ArePartsRead (part_with space is_text (option_map (λ p. p.text) t)) (unit_content u)
part_read space is_text ends IsReadAt.absent = ArePartsRead.none
part_read space is_text ends (IsReadAt.there read) = ArePartsRead.some (record { space = ends; text = read }) ArePartsRead.none

-- both sides have the units of their texts
pub record HaveSides (vs : Versions) : Type 0 where
  pub ours : AreUnits vs.ours.text vs.ours.units
  pub theirs : AreUnits vs.theirs.text vs.theirs.units

slot_space_ends : (vs : Versions) (s : Slot) → HaveSides vs → IsLineEnd (slot_space vs s)
slot_space_ends vs s have =
    or_blank_line
    (picked_has IsLineEnd (space_at vs.base s.base) (space_ends vs.ours s.ours have.ours) (space_ends vs.theirs s.theirs have.theirs))

slot_read : (markers : MarkerLines) (vs : Versions) (s : Slot) → HaveSides vs → IsPicked s.choice
    → ArePartsRead (slot_parts markers vs s) (picked_content vs s s.choice)
slot_read markers vs s have picked = by s.choice picked
  where
    space : IsLineEnd (slot_space vs s)
    space = slot_space_ends vs s have

    by : (choice : Choice) → IsPicked choice
        → ArePartsRead (part_with (slot_space vs s) (is_text_slot vs s) (slot_text markers vs s choice)) (picked_content vs s choice)
    by Ours picked = part_read (slot_space vs s) (is_text_slot vs s) space (unit_read vs.ours s.ours have.ours)
    by Theirs picked = part_read (slot_space vs s) (is_text_slot vs s) space (unit_read vs.theirs s.theirs have.theirs)
    by Conflict picked = absurd picked

slots_read : (markers : MarkerLines) (vs : Versions) (ss : List Slot) → HaveSides vs → AllByRecursion (λ s. IsPicked s.choice) ss
    → ArePartsRead (flat_map (slot_parts markers vs) ss) (flat_map (λ s. picked_content vs s s.choice) ss)
slots_read markers vs [] have all = ArePartsRead.none
slots_read markers vs (s ∷ ss) have all = parts_append (slot_read markers vs s have all.0) (slots_read markers vs ss have all.1)

-- the text of a unit, or no text
or_nothing : {u : Option UnitReading} {t : Option UnitTexts} → IsReadAt u t
    → IsReadPlaceless (content_or_none u) (unwrap_or (option_map (λ p. p.text) t) [])
or_nothing IsReadAt.absent = parts_are_read [] [] (AreParts.none refl)
or_nothing (IsReadAt.there read) = read

-- the parts at a place whose conflict is resolved
resolved_read : (vs : Versions) (takes : Bool) (s : Slot) → HaveSides vs
    → ArePartsRead (resolved_parts vs takes s s.choice) (resolved_at vs takes s s.choice)
resolved_read vs takes s have = by takes s.choice
  where
    space : IsLineEnd (slot_space vs s)
    space = slot_space_ends vs s have

    by : (takes : Bool) (choice : Choice) → ArePartsRead (resolved_parts vs takes s choice) (resolved_at vs takes s choice)
    by takes Ours = part_read (slot_space vs s) (is_text_slot vs s) space (unit_read vs.ours s.ours have.ours)
    by takes Theirs = part_read (slot_space vs s) (is_text_slot vs s) space (unit_read vs.theirs s.theirs have.theirs)
    by true Conflict =
        ArePartsRead.some (record { space = space; text = or_nothing (unit_read vs.theirs s.theirs have.theirs) }) ArePartsRead.none
    by false Conflict =
        ArePartsRead.some (record { space = space; text = or_nothing (unit_read vs.ours s.ours have.ours) }) ArePartsRead.none

all_resolved : (vs : Versions) (takes : Slot → Bool) (ss : List Slot) → HaveSides vs
    → ArePartsRead (flat_map (λ s. resolved_parts vs (takes s) s s.choice) ss) (flat_map (λ s. resolved_at vs (takes s) s s.choice) ss)
all_resolved vs takes [] have = ArePartsRead.none
all_resolved vs takes (s ∷ ss) have = parts_append (resolved_read vs (takes s) s have) (all_resolved vs takes ss have)

-- ---- the text of a merge

-- the parts after a part, with the white space between them
file_parts : Bool → List MergedPart → List FileReading → List FilePart
file_parts is_text [] says = []
file_parts is_text (p ∷ ps) [] = []
file_parts is_text (p ∷ ps) (says ∷ rest) =
    record { space = space_between is_text p.space; text = p.text; says = says } ∷ file_parts p.is_text ps rest

file_parts_next : (is_text : Bool) {ps : List MergedPart} {says : List FileReading} → ArePartsRead ps says
    → AllByRecursion IsNextPart (file_parts is_text ps says)
unfolding file_parts
file_parts_next is_text ArePartsRead.none = _
file_parts_next is_text (ArePartsRead.some {p = p} read rest) =
    (record { space = between_ends is_text p.space read.space; read = read.text }, file_parts_next p.is_text rest)

file_parts_text : (is_text : Bool) (end : List ℕ) {ps : List MergedPart} {says : List FileReading} → ArePartsRead ps says
    → text_of_parts (file_parts is_text ps says) end ≡ text_behind is_text ps end
unfolding file_parts
file_parts_text is_text end ArePartsRead.none = refl
file_parts_text is_text end (ArePartsRead.some {p = p} {ps = ps} {rest = rest} read others) =
    let left : List ℕ = flat_map (λ q. q.space ++ q.text) (file_parts p.is_text ps rest) in
    append_assoc (space_between is_text p.space ++ p.text) left end ∙ append_assoc (space_between is_text p.space) p.text (left ++ end)
    ∙ ap (λ t. space_between is_text p.space ++ (p.text ++ t)) (file_parts_text p.is_text end others)

file_parts_content : (is_text : Bool) {ps : List MergedPart} {says : List FileReading} → ArePartsRead ps says
    → parts_together (file_parts is_text ps says) ≡ contents_together says
unfolding file_parts
file_parts_content is_text ArePartsRead.none = refl
file_parts_content is_text (ArePartsRead.some {p = p} {says = says} read rest) = ap (then says) (file_parts_content p.is_text rest)

-- the text of parts, given the white space around them
text_read : (vs : Versions) {ps : List MergedPart} {says : List FileReading} → IsWhite (merged_start vs) → IsFileEnd (merged_end vs)
    → IsWhite (merged_blank vs) → ArePartsRead ps says → IsReadPlaceless (contents_together says) (text_of_merge vs ps)
text_read vs first last blank ArePartsRead.none = parts_are_read [] (merged_blank vs) (AreParts.none blank)
text_read vs first last blank (ArePartsRead.some {p = p} {ps = ps} {says = says} {rest = rest} read others) =
    let start : List ℕ = merged_start vs in
    let end : List ℕ = merged_end vs in
    let part : FilePart = record { space = start; text = p.text; says = says } in
    let parts : List FilePart = file_parts p.is_text ps rest in
    let left : List ℕ = flat_map (λ q. q.space ++ q.text) parts in
    let whole : text_of_parts (part ∷ parts) end ≡ start ++ (p.text ++ text_behind p.is_text ps end) =
    append_assoc (start ++ p.text) left end ∙ append_assoc start p.text (left ++ end)
    ∙ ap (λ t. start ++ (p.text ++ t)) (file_parts_text p.is_text end others) in
    subst (IsReadPlaceless (then says (contents_together rest))) whole
    (subst (λ r. IsReadPlaceless r (text_of_parts (part ∷ parts) end)) (ap (then says) (file_parts_content p.is_text others))
    (parts_are_read (part ∷ parts) end (AreParts.some first read.text (file_parts_next p.is_text others) last)))

picked_white : (same : Bool) (ours theirs : List ℕ) → IsWhite ours → IsWhite theirs → IsWhite (cond same theirs ours)
picked_white true ours theirs wo wt = wt
picked_white false ours theirs wo wt = wo

-- the text of parts of both sides
sides_read : (vs : Versions) {ps : List MergedPart} {says : List FileReading} → HaveSides vs → ArePartsRead ps says
    → IsReadPlaceless (contents_together says) (text_of_merge vs ps)
sides_read vs have read =
    text_read vs
    (or_empty (picked_has IsWhite (start_of vs.base) (version_read vs.ours have.ours).start (version_read vs.theirs have.theirs).start))
    (or_no_end (picked_has IsFileEnd (end_behind vs.base) (end_there vs.ours have.ours) (end_there vs.theirs have.theirs)))
    (picked_white (bytes_eq (end_of vs.ours) (end_of vs.base)) (end_of vs.ours) (end_of vs.theirs) (end_white vs.ours have.ours)
    (end_white vs.theirs have.theirs))
    read

pub clean_sides_are_read : (markers : MarkerLines) (vs : Versions) (ss : List Slot) → HaveSides vs → IsClean ss
    → IsReadPlaceless (merged_content vs ss) (merged_text markers vs ss)
clean_sides_are_read markers vs ss have clean = sides_read vs have (slots_read markers vs ss have clean)

pub resolved_merges_are_read : (vs : Versions) (takes : Slot → Bool) (ss : List Slot) → HaveUnits vs
    → IsReadPlaceless (resolved_content vs takes ss) (resolved_text vs takes ss)
resolved_merges_are_read vs takes ss have =
    let sides : HaveSides vs = record { ours = have.ours; theirs = have.theirs } in
    sides_read vs sides (all_resolved vs takes ss sides)

pub clean_merges_are_read : (markers : MarkerLines) (vs : Versions) (ss : List Slot) → HaveUnits vs → IsClean ss
    → IsReadPlaceless (merged_content vs ss) (merged_text markers vs ss)
clean_merges_are_read markers vs ss have clean =
    clean_sides_are_read markers vs ss (record { ours = have.ours; theirs = have.theirs }) clean
