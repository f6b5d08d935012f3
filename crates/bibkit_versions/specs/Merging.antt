-- Meaning: words of public contracts.
-- The output of `merge`. Entries that a side renamed get their new keys in all versions, entries that both sides changed are merged by
-- their fields, and then the versions are merged by units.
use Rattle.std.specs.Prelude.{◌≡◌, ℕ, Bool, true, false, List, Option, Some, None}
use Rattle.std.specs.List.{list_any}
use Rattle.bib_syntax.specs.Grammar.{IsFile}
use Rattle.edit_merge.specs.Entries.{HasMergedEntries, are_all_different}
use Rattle.edit_entry_merge.specs.ConflictTexts.{MarkerLines}
use Rattle.edit_merge.specs.Lost.{kept_slots}
use Rattle.edit_merge.specs.Merged.{merged_text}
use Rattle.edit_merge.specs.Picked.{Versions, slots}
use Rattle.edit_merge.specs.Renames.{HaveNewTexts, NewTexts}
use Rattle.edit_merge.specs.declared.entries.Side.{Side}
use Rattle.edit_merge.specs.declared.entries.Side.TheVariants.{Ours, Theirs}
use Rattle.edit_merge.specs.declared.picking.Choice.{Choice}
use Rattle.edit_merge.specs.declared.picking.Choice.TheVariants as choice
use Rattle.edit_merge.specs.declared.slots.Slot.{Slot}
use Rattle.edit_units.specs.Units.{AreUnits}
use Rattle.edit_versions.specs.Versions.{VersionReading}

-- whether a choice is a conflict
abbrev pub is_conflict_choice : Choice → Bool
is_conflict_choice choice.Ours = false
is_conflict_choice choice.Theirs = false
is_conflict_choice choice.Conflict = true

-- whether one of these places has a conflict
abbrev pub has_conflict : List Slot → Bool
has_conflict ss = list_any (λ s. is_conflict_choice s.choice) ss

-- whether both sides changed the units at a place, and differently
abbrev pub is_changed_twice : Versions → Bool
is_changed_twice vs = list_any (are_all_different vs) (slots vs)

-- a text of a side with merged entries isn't the text of a file
pub record IsRefusedMerge (vs : Versions) : Type 0 where
  pub side : Side
  pub text : List ℕ
  pub merged : HasMergedEntries side vs text
  pub refused : IsFile text → ⊥

-- Versions whose merge by units is the merge of `vs`: those in which entries that both sides changed are merged by their fields. If no unit
-- was changed by both sides, or a text with merged entries isn't that of a file, they are the same versions
pub data AreMergedBy (vs : Versions) : Versions → Type 0 where
  unneeded : is_changed_twice vs ≡ false → AreMergedBy vs vs
  refused : is_changed_twice vs ≡ true → IsRefusedMerge vs → AreMergedBy vs vs
  by_fields : {ours theirs : VersionReading} → is_changed_twice vs ≡ true → HasMergedEntries Ours vs ours.text
      → AreUnits ours.text ours.units → HasMergedEntries Theirs vs theirs.text → AreUnits theirs.text theirs.units
      → AreMergedBy vs (record { base = vs.base; ours = ours; theirs = theirs })

-- A text is a merge of versions, after the renames, and `conflicts` says whether it has conflicts. Lost names are those of `vs`, the
-- versions before their entries were merged by fields
pub record IsMergeByFields (markers : MarkerLines) (vs : Versions) (text : List ℕ) (conflicts : Bool) : Type 0 where
  pub merged : Versions
  pub are : AreMergedBy vs merged
  pub is : text ≡ merged_text markers merged (kept_slots merged vs)
  pub has : conflicts ≡ has_conflict (kept_slots merged vs)

-- ---- renames

-- the version of a new text, or the old version if there is no new text
abbrev pub IsNewVersion : Option (List ℕ) → VersionReading → VersionReading → Type 0
IsNewVersion None v w = w ≡ v
IsNewVersion (Some text) v w = (w.text ≡ text) × AreUnits w.text w.units

-- there is a text, and it isn't the text of a file
abbrev pub IsRefusedText : Option (List ℕ) → Type 0
IsRefusedText None = ⊥
IsRefusedText (Some text) = IsFile text → ⊥

-- Versions after the renames that count: those of the new texts. They are the same versions if a new text isn't that of a file
pub data AreRenamedBy (vs : Versions) : Versions → Type 0 where
  renamed : {texts : NewTexts} {base ours theirs : VersionReading} → HaveNewTexts vs texts → IsNewVersion texts.base vs.base base
      → IsNewVersion texts.ours vs.ours ours → IsNewVersion texts.theirs vs.theirs theirs
      → AreRenamedBy vs (record { base = base; ours = ours; theirs = theirs })
  refused_base : {texts : NewTexts} → HaveNewTexts vs texts → IsRefusedText texts.base → AreRenamedBy vs vs
  refused_ours : {texts : NewTexts} → HaveNewTexts vs texts → IsRefusedText texts.ours → AreRenamedBy vs vs
  refused_theirs : {texts : NewTexts} → HaveNewTexts vs texts → IsRefusedText texts.theirs → AreRenamedBy vs vs

-- a text is a merge, and `conflicts` says whether it has conflicts
pub record IsMergedFile (markers : MarkerLines) (vs : Versions) (text : List ℕ) (conflicts : Bool) : Type 0 where
  pub renamed : Versions
  pub are : AreRenamedBy vs renamed
  pub merge : IsMergeByFields markers renamed text conflicts
