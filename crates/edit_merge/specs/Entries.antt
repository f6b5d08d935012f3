-- Meaning: words of public contracts.
-- Entries that both sides changed are merged by their fields, before the units of both sides are merged. Each side gets a text in which
-- such an entry is the merged one. If fields conflict, it has the values of this side for them.
use Rattle.std.specs.Prelude.{◌≡◌, ◌&&◌, not, ℕ, Bool, true, false, List, [], ◌∷◌, ◌++◌, Option, Some, None, option_map, zip, ⊤}
use Rattle.edit_entries.specs.Documents.{Document, IsDocument}
use Rattle.edit_entry_merge.specs.Merges.{MergeReading, entry_merge}
use Rattle.edit_merge.specs.Picked.{Versions, is_repeated_in, slot_of}
use Rattle.edit_merge.specs.declared.entries.Side.{Side}
use Rattle.edit_merge.specs.declared.entries.Side.TheVariants.{Ours, Theirs}
use Rattle.edit_merge.specs.declared.slots.Slot.{Slot}
use Rattle.edit_units.specs.Units.{UnitTexts}
use Rattle.edit_versions.specs.Alike.{is_same}
use Rattle.edit_versions.specs.Versions.{VersionReading, end_of, own_part, text_of_unit, version_names, version_texts, version_unit}

-- the bytes of the unit at an index, if there is an index
abbrev pub bytes_at : VersionReading → Option ℕ → Option (List ℕ)
bytes_at v index = option_map (text_of_unit v.text) (version_unit v index)

-- a document has this text and its reading, or both are absent. Each unit of a version has a document (`units_are_parts` of
-- `edit_units`)
abbrev pub HasDocument : Option (List ℕ) → Option Document → Type 0
HasDocument None None = ⊤
HasDocument None (Some d) = ⊥
HasDocument (Some text) None = ⊥
HasDocument (Some text) (Some d) = (d.text ≡ text) × IsDocument d

-- the merge of the texts of units by the fields of their entries: that of their documents. If a side lacks the unit, there is none
abbrev pub IsFieldMerge : Option (List ℕ) → Option (List ℕ) → Option (List ℕ) → MergeReading → Type 0
IsFieldMerge base None theirs m = m ≡ MergeReading.whole
IsFieldMerge base (Some o) None m = m ≡ MergeReading.whole
IsFieldMerge base (Some o) (Some t) m =
    (b : Option Document) (ours theirs : Document) → HasDocument base b → HasDocument (Some o) (Some ours)
    → HasDocument (Some t) (Some theirs) → m ≡ entry_merge b ours theirs

-- whether both sides changed the units at a place, and differently: no two versions have the same bytes there
abbrev pub are_all_different : Versions → Slot → Bool
are_all_different vs s =
    let b = version_unit vs.base s.base in
    let o = version_unit vs.ours s.ours in
    let t = version_unit vs.theirs s.theirs in
    not (is_same vs.theirs t vs.base b) && (not (is_same vs.ours o vs.base b) && not (is_same vs.theirs t vs.ours o))

-- whether the units with a name may be merged by fields: both sides changed them, and no version has two units with their own name
abbrev pub may_merge : Versions → List ℕ → Slot → Bool
may_merge vs name s = are_all_different vs s && not (is_repeated_in vs (own_part name))

-- the merge by fields at a place, if the units there may be merged so; otherwise there is none
abbrev pub IsMergeIf : Bool → Versions → Slot → MergeReading → Type 0
IsMergeIf true vs s m = IsFieldMerge (bytes_at vs.base s.base) (bytes_at vs.ours s.ours) (bytes_at vs.theirs s.theirs) m
IsMergeIf false vs s m = m ≡ MergeReading.whole

-- the merge by fields at a place, for the units with a name
abbrev pub IsSlotMerge : Versions → List ℕ → Slot → MergeReading → Type 0
IsSlotMerge vs name s m = IsMergeIf (may_merge vs name s) vs s m

-- the text of a unit after the merge by fields, on a side on which it has the text `own`
abbrev pub text_on : Side → MergeReading → List ℕ → List ℕ
text_on side MergeReading.whole own = own
text_on side (MergeReading.merged text) own = text
text_on Ours (MergeReading.fields ours theirs names) own = ours
text_on Theirs (MergeReading.fields ours theirs names) own = theirs

-- a text has these units of a side, with their names, after the merge by fields
pub data HasMergedUnits (side : Side) (vs : Versions) : List (List ℕ × UnitTexts) → List ℕ → Type 0 where
  none : HasMergedUnits side vs [] []
  some : {name : List ℕ} {u : UnitTexts} (m : MergeReading) {rest : List (List ℕ × UnitTexts)} {text : List ℕ}
      → IsSlotMerge vs name (slot_of vs name) m → HasMergedUnits side vs rest text
      → HasMergedUnits side vs ((name, u) ∷ rest) (u.space ++ (text_on side m u.text ++ text))

-- the version of a side
abbrev pub version_on : Side → Versions → VersionReading
version_on Ours vs = vs.ours
version_on Theirs vs = vs.theirs

-- the text of a side after the merge by fields
pub record HasMergedEntries (side : Side) (vs : Versions) (text : List ℕ) : Type 0 where
  pub units : List ℕ
  pub merged : HasMergedUnits side vs (zip (version_names (version_on side vs)) (version_texts (version_on side vs))) units
  pub whole : text ≡ units ++ end_of (version_on side vs)
