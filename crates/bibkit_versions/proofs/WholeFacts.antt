-- A merged file is the text of a side if the other side, or both, changed nothing.
use Rattle.std.proofs.Common.{◌≡◌, ℕ, ◌<◌, ◌^◌, Bool, true, false, List, [], ◌∷◌, Option, Some, None, length, map, refl, sym, ap, ap₂, ◌∙◌, subst}
use Rattle.std.specs.Prelude.{◌&&◌, ◌||◌, bytes_eq, not, option_map}
use Rattle.std.specs.List.{list_any}
use Rattle.std.proofs.lemmas.Slice.Eq.{bytes_eq-Decides}
use Rattle.bib_text.proofs.PlaceFacts.{test_clash}
use Rattle.edit_entry_merge.specs.ConflictTexts.{MarkerLines}
use Rattle.edit_merge.proofs.RenameLawFacts.{equal_versions_stay, ours_equal, sides_equal, theirs_equal}
use Rattle.edit_merge.proofs.UnchangedFacts.{equal_sides_give_their_text, unchanged_ours_gives_theirs, unchanged_theirs_gives_ours}
use Rattle.edit_merge.specs.Clean.{HaveUnits, IsClean, IsPicked}
use Rattle.edit_merge.specs.Entries.{are_all_different}
use Rattle.edit_merge.specs.Lost.{kept_slots}
use Rattle.edit_merge.specs.Merged.{merged_text}
use Rattle.edit_merge.specs.Picked.{Versions, merged_names, slot_of}
use Rattle.edit_merge.specs.Renames.{have_different_texts, no_texts}
use Rattle.edit_merge.specs.Unchanged.{IsMerge}
use Rattle.edit_merge.specs.declared.picking.Choice.{Choice}
use Rattle.edit_merge.specs.declared.picking.Choice.TheVariants as choice
use Rattle.edit_merge.specs.declared.slots.Slot.{Slot}
use Rattle.edit_units.specs.Units.{AreUnits, UnitReading}
use Rattle.edit_versions.specs.Alike.{are_same_texts, is_same}
use Rattle.edit_versions.specs.Versions.{VersionReading, named_index, text_of_unit, version_unit}
use Rattle.bibkit_versions.specs.Merging.{AreMergedBy, AreRenamedBy, IsMergeByFields, IsMergedFile, IsNewVersion, has_conflict, is_changed_twice, is_conflict_choice}
use Rattle.bibkit_versions.specs.Merging.AreMergedBy.{by_fields, refused, unneeded}
use Rattle.bibkit_versions.specs.Merging.AreRenamedBy.{refused_base, refused_ours, refused_theirs, renamed}
use Rattle.bibkit_versions.specs.WholeMerges.{IsWholeMerge}

-- ---- renames

-- if two versions have the same text, no version is renamed
same_versions : (vs renamed_vs : Versions) → HaveUnits vs → have_different_texts vs ≡ false → AreRenamedBy vs renamed_vs → renamed_vs ≡ vs
same_versions vs renamed_vs all equal (renamed {texts = texts} {base = base} {ours = ours} {theirs = theirs} have b o t) =
    let none : texts ≡ no_texts = equal_versions_stay vs texts all equal have in
    let base_is : base ≡ vs.base = subst (λ x. IsNewVersion x.base vs.base base) none b in
    let ours_is : ours ≡ vs.ours = subst (λ x. IsNewVersion x.ours vs.ours ours) none o in
    let theirs_is : theirs ≡ vs.theirs = subst (λ x. IsNewVersion x.theirs vs.theirs theirs) none t in
    ap (λ x. let ws : Versions = record { base = x; ours = ours; theirs = theirs } in ws) base_is
    ∙ ap (λ x. let ws : Versions = record { base = vs.base; ours = x; theirs = theirs } in ws) ours_is
    ∙ ap (λ x. let ws : Versions = record { base = vs.base; ours = vs.ours; theirs = x } in ws) theirs_is
same_versions vs renamed_vs all equal (refused_base have why) = refl
same_versions vs renamed_vs all equal (refused_ours have why) = refl
same_versions vs renamed_vs all equal (refused_theirs have why) = refl

-- ---- entries that both sides changed

same_itself : (v : VersionReading) (u : Option UnitReading) → is_same v u v u ≡ true
same_itself v u = by (option_map (text_of_unit v.text) u)
  where
    by : (text : Option (List ℕ)) → are_same_texts text text ≡ true
    by None = refl
    by (Some text) = (bytes_eq-Decides text text).1 refl

none_of_all : (vs : Versions) (names : List (List ℕ)) → ((name : List ℕ) → are_all_different vs (slot_of vs name) ≡ false)
    → list_any (are_all_different vs) (map (slot_of vs) names) ≡ false
none_of_all vs [] none = refl
none_of_all vs (n ∷ ns) none = ap₂ (λ x y. x || y) (none n) (none_of_all vs ns none)

and_false : (b : Bool) → (b && false) ≡ false
and_false true = refl
and_false false = refl

theirs_as_base : (base ours : VersionReading) → is_changed_twice (record { base = base; ours = ours; theirs = base }) ≡ false
theirs_as_base base ours =
    let vs : Versions = record { base = base; ours = ours; theirs = base } in
    none_of_all vs (merged_names vs) (λ name.
    let b : Option UnitReading = version_unit base (named_index base name) in
    let o : Option UnitReading = version_unit ours (named_index ours name) in
    ap (λ x. not x && (not (is_same ours o base b) && not (is_same base b ours o))) (same_itself base b))

ours_as_base : (base theirs : VersionReading) → is_changed_twice (record { base = base; ours = base; theirs = theirs }) ≡ false
ours_as_base base theirs =
    let vs : Versions = record { base = base; ours = base; theirs = theirs } in
    none_of_all vs (merged_names vs) (λ name.
    let b : Option UnitReading = version_unit base (named_index base name) in
    let t : Option UnitReading = version_unit theirs (named_index theirs name) in
    ap (λ x. not (is_same theirs t base b) && (not x && not (is_same theirs t base b))) (same_itself base b)
    ∙ and_false (not (is_same theirs t base b)))

equal_sides : (base side : VersionReading) → is_changed_twice (record { base = base; ours = side; theirs = side }) ≡ false
equal_sides base side =
    let vs : Versions = record { base = base; ours = side; theirs = side } in
    none_of_all vs (merged_names vs) (λ name.
    let b : Option UnitReading = version_unit base (named_index base name) in
    let s : Option UnitReading = version_unit side (named_index side name) in
    ap (λ x. not (is_same side s base b) && (not (is_same side s base b) && not x)) (same_itself side s)
    ∙ ap (λ x. not (is_same side s base b) && x) (and_false (not (is_same side s base b)))
    ∙ and_false (not (is_same side s base b)))

-- ---- the merged file

clean_conflicts : (ss : List Slot) → IsClean ss → has_conflict ss ≡ false
clean_conflicts [] clean = refl
clean_conflicts (s ∷ ss) clean = ap₂ (λ x y. x || y) (by s.choice clean.0) (clean_conflicts ss clean.1)
  where
    by : (c : Choice) → IsPicked c → is_conflict_choice c ≡ false
    by choice.Ours picked = refl
    by choice.Theirs picked = refl
    by choice.Conflict picked = absurd picked

merge_is : (markers : MarkerLines) (vs : Versions) (whole text : List ℕ) (conflicts : Bool) → is_changed_twice vs ≡ false
    → IsMerge markers vs whole → IsMergeByFields markers vs text conflicts → IsWholeMerge whole text conflicts
merge_is markers vs whole text conflicts none merge fields = by fields.merged fields.are fields.is fields.has
  where
    by : (merged : Versions) → AreMergedBy vs merged → text ≡ merged_text markers merged (kept_slots merged vs)
        → conflicts ≡ has_conflict (kept_slots merged vs) → IsWholeMerge whole text conflicts
    by merged (unneeded unchanged) is has =
        record { same = is ∙ merge.text_is; clean = has ∙ clean_conflicts (kept_slots vs vs) merge.clean }
    by merged (refused changed why) is has = absurd (test_clash (is_changed_twice vs) changed none)
    by merged (by_fields changed ours units theirs units') is has = absurd (test_clash (is_changed_twice vs) changed none)

file_is : (markers : MarkerLines) (vs : Versions) (whole text : List ℕ) (conflicts : Bool) → HaveUnits vs → have_different_texts vs ≡ false
    → is_changed_twice vs ≡ false → IsMerge markers vs whole → IsMergedFile markers vs text conflicts → IsWholeMerge whole text conflicts
file_is markers vs whole text conflicts all equal none merge file =
    merge_is markers vs whole text conflicts none merge
    (subst (λ ws. IsMergeByFields markers ws text conflicts) (same_versions vs file.renamed all equal file.are) file.merge)

pub theirs_unchanged : (markers : MarkerLines) (base ours : VersionReading) (text : List ℕ) (conflicts : Bool)
    → AreUnits base.text base.units → AreUnits ours.text ours.units → length ours.units < 2 ^ 64
    → IsMergedFile markers (record { base = base; ours = ours; theirs = base }) text conflicts → IsWholeMerge ours.text text conflicts
theirs_unchanged markers base ours text conflicts units units' fits file =
    let vs : Versions = record { base = base; ours = ours; theirs = base } in
    file_is markers vs ours.text text conflicts (record { base = units; ours = units'; theirs = units }) (theirs_equal vs refl)
    (theirs_as_base base ours) (unchanged_theirs_gives_ours markers base ours units units' fits) file

pub ours_unchanged : (markers : MarkerLines) (base theirs : VersionReading) (text : List ℕ) (conflicts : Bool)
    → AreUnits base.text base.units → AreUnits theirs.text theirs.units → length theirs.units < 2 ^ 64
    → IsMergedFile markers (record { base = base; ours = base; theirs = theirs }) text conflicts → IsWholeMerge theirs.text text conflicts
ours_unchanged markers base theirs text conflicts units units' fits file =
    let vs : Versions = record { base = base; ours = base; theirs = theirs } in
    file_is markers vs theirs.text text conflicts (record { base = units; ours = units; theirs = units' }) (ours_equal vs refl)
    (ours_as_base base theirs) (unchanged_ours_gives_theirs markers base theirs units units' fits) file

pub sides_the_same : (markers : MarkerLines) (base side : VersionReading) (text : List ℕ) (conflicts : Bool)
    → AreUnits base.text base.units → AreUnits side.text side.units → length side.units < 2 ^ 64
    → IsMergedFile markers (record { base = base; ours = side; theirs = side }) text conflicts → IsWholeMerge side.text text conflicts
sides_the_same markers base side text conflicts units units' fits file =
    let vs : Versions = record { base = base; ours = side; theirs = side } in
    file_is markers vs side.text text conflicts (record { base = units; ours = units'; theirs = units' }) (sides_equal vs refl)
    (equal_sides base side) (equal_sides_give_their_text markers base side units' fits) file
