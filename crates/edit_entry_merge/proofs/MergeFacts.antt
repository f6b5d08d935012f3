-- The merge of three documents, step by step.
use Rattle.std.proofs.Common.{◌≡◌, ℕ, true, false, List, [], ◌∷◌, length, refl, ap, ◌∙◌, Option, Some, None}
use Rattle.std.specs.Prelude.{◌==◌}
use Rattle.edit_entries.specs.Documents.{Document}
use Rattle.edit_entry_merge.specs.Choices.{conflicts}
use Rattle.edit_entry_merge.specs.Frames.{frame_choice}
use Rattle.edit_entry_merge.specs.Merges.{MergeReading, entry_merge, merge_by, merge_in, merge_versions, text_for}
use Rattle.edit_entry_merge.specs.Versions.{EntryVersions, entry_versions}
use Rattle.edit_entry_merge.specs.declared.choices.Side.{Side}
use Rattle.edit_entry_merge.specs.declared.choices.Side.TheVariants.{Ours, Theirs}

-- the merge, if the documents are versions whose frames don't conflict
pub merge_is : (base : Option Document) (ours theirs : Document) (vs : EntryVersions) (main : Side) (o t : Option (List ℕ))
    (names : List (List ℕ))
    → Some vs ≡ entry_versions base ours theirs → Some main ≡ frame_choice vs → o ≡ text_for vs main Ours → t ≡ text_for vs main Theirs
    → names ≡ conflicts vs → merge_by o t names ≡ entry_merge base ours theirs
merge_is base ours theirs vs main o t names are frame our_text their_text conflicting =
    ap (λ x. merge_by x t names) our_text
    ∙ ap (λ x. merge_by (text_for vs main Ours) x names) their_text
    ∙ ap (merge_by (text_for vs main Ours) (text_for vs main Theirs)) conflicting
    ∙ ap (merge_in vs) frame
    ∙ ap merge_versions are

pub fields_is : (o t : List ℕ) (names : List (List ℕ)) → (length names == 0) ≡ false
    → MergeReading.fields o t names ≡ merge_by (Some o) (Some t) names
fields_is o t [] some = let clash : true ≡ false = some in cc
fields_is o t (n ∷ ns) some = refl

pub whole_is : (o : List ℕ) (names : List (List ℕ)) → (length names == 0) ≡ false → MergeReading.whole ≡ merge_by (Some o) None names
whole_is o [] some = let clash : true ≡ false = some in cc
whole_is o (n ∷ ns) some = refl
