-- The merge if theirs changed nothing.
use Rattle.std.proofs.Common.{◌≡◌, ℕ, Bool, true, false, cond, not, List, [], ◌∷◌, filter, map, refl, sym, ap, ◌∙◌, Option, Some, None}
use Rattle.std.specs.Prelude.{◌&&◌, ◌||◌, is_some, option_and_then, option_map, unwrap_or}
use Rattle.std.specs.List.{list_all, list_any}
use Rattle.std.specs.Option.{option_or}
use Rattle.bib_text.proofs.ListFacts.{some_same}
use Rattle.bib_syntax.specs.Reading.{EntryReading, FieldReading}
use Rattle.edit_entries.specs.Changes.{FieldChange, edits_of_fields}
use Rattle.edit_entries.specs.Documents.{Document}
use Rattle.edit_entries.specs.Edits.{edited_all}
use Rattle.edit_entry_merge.specs.Choices.{AreSameByName, are_different_sides, are_equal_fields, choice, counting_side, has_field_named, is_conflict, fields_of_sides, takes_other, time_choice}
use Rattle.edit_entry_merge.specs.Frames.{are_alike_frames, are_same_frames, frame_choice}
use Rattle.edit_entry_merge.specs.Merges.{MergeReading, entry_merge, text_for}
use Rattle.edit_entry_merge.specs.Mixed.{can_write, mixed_field_changes, has_inner_comment, last_changes, mixed_text, picked_change}
use Rattle.edit_entry_merge.specs.Picks.{FieldPick, additions, is_added, is_staying, pick, pick_instead, picks}
use Rattle.edit_entry_merge.specs.Versions.{Version, EntryVersions, are_found_by_name, named, version_by, version_of}
use Rattle.edit_entry_merge.specs.declared.choices.Side.{Side}
use Rattle.edit_entry_merge.specs.declared.choices.Side.TheVariants.{Ours, Theirs}
use Rattle.edit_entry_merge.proofs.MergeFacts.{merge_is}

-- ---- nothing is taken

module _ (takes : List ℕ → Bool) (main other : Version) (none : (name : List ℕ) → takes name ≡ false) where
  pick_keeps : (f : FieldReading) → pick takes other f ≡ FieldPick.keep
  pick_keeps f = ap (λ b. cond b (pick_instead f (named f.name.text other)) FieldPick.keep) (none f.name.text)

  no_additions : (gs : List FieldReading) → filter (is_added takes main) gs ≡ []
  no_additions [] = refl
  no_additions (g ∷ gs) =
      ap (λ b. cond (b && not (has_field_named g.name.text main)) (g ∷ filter (is_added takes main) gs) (filter (is_added takes main) gs))
      (none g.name.text)
      ∙ no_additions gs

  no_edits : (text others : List ℕ) (all : List FieldReading) (fs : List FieldReading)
      → edits_of_fields text fs (mixed_field_changes text others all [] (map (pick takes other) fs) fs) ≡ []
  no_edits text others all [] = refl
  no_edits text others all (f ∷ fs) =
      ap
      (λ p.
      edits_of_fields text (f ∷ fs)
      (cond (list_any is_staying (map (pick takes other) fs))
      (picked_change others p ∷ mixed_field_changes text others all [] (map (pick takes other) fs) fs)
      (last_changes text others all f p fs []))) (pick_keeps f)
      ∙ by_rest fs (no_edits text others all fs)
    where
      by_rest : (gs : List FieldReading)
          → edits_of_fields text gs (mixed_field_changes text others all [] (map (pick takes other) gs) gs) ≡ []
          → edits_of_fields text (f ∷ gs)
          (cond (list_any is_staying (map (pick takes other) gs))
          (FieldChange.kept ∷ mixed_field_changes text others all [] (map (pick takes other) gs) gs)
          (last_changes text others all f FieldPick.keep gs []))
          ≡ []
      by_rest [] rest = refl
      by_rest (g ∷ gs) rest =
          ap
          (λ p.
          edits_of_fields text (f ∷ g ∷ gs)
          (cond (is_staying p || list_any is_staying (map (pick takes other) gs))
          (FieldChange.kept ∷ mixed_field_changes text others all [] (map (pick takes other) (g ∷ gs)) (g ∷ gs))
          (last_changes text others all f FieldPick.keep (g ∷ gs) []))) (pick_keeps g)
          ∙ rest

  all_stay : (fs : List FieldReading) → list_all is_staying (map (pick takes other) fs) ≡ true
  all_stay [] = refl
  all_stay (f ∷ fs) =
      ap (λ p. is_staying p && list_all is_staying (map (pick takes other) fs)) (pick_keeps f) ∙ all_stay fs

  one_stays : (fs : List FieldReading) → are_found_by_name fs ≡ true → list_any is_staying (map (pick takes other) fs) ≡ true
  one_stays [] found = absurd (cc)
  one_stays (f ∷ fs) found = ap (λ p. is_staying p || list_any is_staying (map (pick takes other) fs)) (pick_keeps f)

  -- the text stays
  pub text_stays : are_found_by_name main.entry.fields ≡ true → mixed_text takes main other ≡ Some main.text
  text_stays found =
      let added : additions takes main other ≡ [] = no_additions other.entry.fields in
      let fs : List FieldReading = main.entry.fields in
      let new : List FieldReading → List ℕ =
      λ (l : List FieldReading).
      edited_all (edits_of_fields main.text fs (mixed_field_changes main.text other.text fs l (picks takes main other) fs)) main.text in
      ap (λ l. cond (can_write main (picks takes main other) l) (Some (new l)) None) added
      ∙ ap (λ b. cond (b && ((list_all is_staying (picks takes main other) && true) || not (has_inner_comment main))) (Some (new [])) None)
      (one_stays fs found)
      ∙ ap (λ b. cond ((b && true) || not (has_inner_comment main)) (Some (new [])) None) (all_stay fs)
      ∙ ap (λ l. Some (edited_all l main.text)) (no_edits main.text other.text fs fs)

-- ---- theirs is the base

module _ (b o t : Version) (same : AreSameByName t b) where
  ours_counts : (name : List ℕ) → choice (record { base = Some b; ours = o; theirs = t }) name ≡ Some Ours
  ours_counts name =
      ap
      (λ is.
      option_or (counting_side is (are_equal_fields (named name o) (named name b)) (are_equal_fields (named name t) (named name o)))
      (time_choice name (named name o) (named name t))) (same name)

  nothing_taken : (prefer : Side) (name : List ℕ) → takes_other (record { base = Some b; ours = o; theirs = t }) Ours prefer name ≡ false
  nothing_taken prefer name = ap (λ c. are_different_sides Ours (unwrap_or c prefer)) (ours_counts name)

  no_conflicts : (fs : List FieldReading)
      → map (λ f. f.name.text) (filter (λ f. is_conflict (record { base = Some b; ours = o; theirs = t }) f.name.text) fs) ≡ []
  no_conflicts [] = refl
  no_conflicts (f ∷ fs) =
      ap
      (λ c.
      map (λ g. g.name.text)
      (cond (not (is_some c))
      (f ∷ filter (λ g. is_conflict (record { base = Some b; ours = o; theirs = t }) g.name.text) fs)
      (filter (λ g. is_conflict (record { base = Some b; ours = o; theirs = t }) g.name.text) fs))) (ours_counts f.name.text)
      ∙ no_conflicts fs

versions_are : (x y z : Option Version) (b o t : Version) → x ≡ Some b → y ≡ Some o → z ≡ Some t
    → option_and_then (λ c.
    option_and_then (λ p. option_map (λ q. let vs : EntryVersions = record { base = c; ours = p; theirs = q } in vs) z) y)
    (option_map Some x)
    ≡ Some (record { base = Some b; ours = o; theirs = t })
versions_are x y z b o t is_b is_o is_t =
    ap
    (λ l.
    option_and_then (λ c. option_and_then (λ p.
    option_map (λ q. let vs : EntryVersions = record { base = c; ours = p; theirs = q } in vs) z) y)
    (option_map Some l)) is_b
    ∙ ap (option_and_then (λ p. option_map (λ q. let vs : EntryVersions = record { base = Some b; ours = p; theirs = q } in vs) z)) is_o
    ∙ ap (option_map (λ q. let vs : EntryVersions = record { base = Some b; ours = o; theirs = q } in vs)) is_t

found_by : (text : List ℕ) (v : Version) (es : List EntryReading) → version_by text es ≡ Some v
    → (are_found_by_name v.entry.fields ≡ true) × (v.text ≡ text)
found_by text v [] is = absurd (cc)
found_by text v (e ∷ []) is = by_case (are_found_by_name e.fields) refl is
  where
    by_case : (b : Bool) → are_found_by_name e.fields ≡ b → cond b (Some (record { text = text; entry = e })) None ≡ Some v
        → (are_found_by_name v.entry.fields ≡ true) × (v.text ≡ text)
    by_case true found is =
        let one : (let w : Version = record { text = text; entry = e } in w) ≡ v = some_same is in
        (ap (λ w. are_found_by_name w.entry.fields) (sym one) ∙ found, ap (λ w. w.text) (sym one))
    by_case false found is = absurd (cc)
found_by text v (e ∷ other ∷ es) is = absurd (cc)

-- the merge is ours, if theirs has the values and the frame of the base
pub unchanged : (base ours theirs : Document) (b o t : Version) → version_of base ≡ Some b → version_of ours ≡ Some o
    → version_of theirs ≡ Some t → AreSameByName t b → are_same_frames t b ≡ true
    → entry_merge (Some base) ours theirs ≡ MergeReading.merged ours.text
unchanged base ours theirs b o t is_b is_o is_t same frame =
    let vs : EntryVersions = record { base = Some b; ours = o; theirs = t } in
    let found = found_by ours.text o ours.says.entries is_o in
    let counts : Some Ours ≡ frame_choice vs =
    sym
    (ap
    (λ x.
    cond x (Some Ours)
    (cond (are_same_frames o b) (Some Theirs)
    (counting_side (are_alike_frames t b) (are_alike_frames o b) (are_alike_frames t o)))) frame) in
    sym
    (merge_is (Some base) ours theirs vs Ours (Some o.text) (text_for vs Ours Theirs) []
    (sym (versions_are (version_of base) (version_of ours) (version_of theirs) b o t is_b is_o is_t)) counts
    (sym (text_stays (takes_other vs Ours Ours) o t (nothing_taken b o t same Ours) found.0)) refl
    (sym (no_conflicts b o t same (fields_of_sides vs))))
    ∙ ap MergeReading.merged found.1
