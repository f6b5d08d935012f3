-- The output of a merge by units is that of a merge.
use Rattle.std.proofs.Common.{◌≡◌, ◌∙◌, ◌||◌, Bool, IfOk, ℕ, List, [], ◌∷◌, Result, Ok, Err, ap, map, refl}
use Rattle.std.specs.List.{list_any}
use Rattle.edit_entry_merge.specs.ConflictTexts.{MarkerLines}
use Rattle.edit_merge.specs.Entries.{are_all_different}
use Rattle.edit_merge.specs.Lost.{kept_slot, kept_slots}
use Rattle.edit_merge.specs.Merged.{merged_text}
use Rattle.edit_merge.specs.Picked.{Versions}
use Rattle.edit_merge.specs.declared.slots.Slot.{Slot}
use Rattle.bibkit_versions.specs.Merging.{AreMergedBy, IsMergeByFields, is_conflict_choice}

-- the output for a merge of versions by units, of which these are the text and the places
pub is_merge : {T E : Type 0} (r : Result T E) (text_of : T → List ℕ) (conflicts_of : T → Bool) (markers : MarkerLines) (vs : Versions)
    {text : List ℕ} {places : List Slot} → AreMergedBy vs vs → text ≡ merged_text markers vs (kept_slots vs vs)
    → places ≡ kept_slots vs vs → IfOk r (λ o. text_of o ≡ text)
    → IfOk r (λ o. conflicts_of o ≡ list_any (λ s. is_conflict_choice s.choice) places)
    → IfOk r (λ o. IsMergeByFields markers vs (text_of o) (conflicts_of o))
is_merge (Ok o) text_of conflicts_of markers vs same merged places_are is has =
    record {
      merged = vs;
      are = same;
      is = is ∙ merged;
      has = has ∙ ap (list_any (λ s. is_conflict_choice s.choice)) places_are;
    }
is_merge (Err e) text_of conflicts_of markers vs same merged places_are is has = tt

-- conflicts for lost names don't change which places both sides changed
pub kept_changed : (vs : Versions) (places : List Slot)
    → list_any (are_all_different vs) (map (kept_slot vs vs) places) ≡ list_any (are_all_different vs) places
kept_changed vs [] = refl
kept_changed vs (s ∷ places) = ap (λ b. are_all_different vs s || b) (kept_changed vs places)
