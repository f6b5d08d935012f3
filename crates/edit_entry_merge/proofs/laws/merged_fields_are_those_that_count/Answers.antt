use Rattle.std.proofs.Common.{◌≡◌, ◌∙◌, ℕ, Bool, List, ap, cond, refl, sym}
use Rattle.std.specs.Prelude.{unwrap_or}
use Rattle.std.specs.List.{find}
use Rattle.edit_entries.specs.Documents.{has_name}
use Rattle.edit_entry_merge.specs.Choices.{are_different_sides, are_equal_fields, choice, other_side, takes_other, version_at}
use Rattle.edit_entry_merge.specs.Picks.{merged_fields}
use Rattle.edit_entry_merge.specs.Versions.{EntryVersions, named}
use Rattle.edit_entry_merge.specs.declared.choices.Side.{Side}
use Rattle.edit_entry_merge.specs.declared.choices.Side.TheVariants.{Ours, Theirs}
use Rattle.edit_entry_merge.proofs.ChosenFacts.{field_is, found_distinct, takes_same}
use Rattle.edit_entry_merge.proofs.laws.merged_fields_are_those_that_count.Goals as goal

counted : (vs : EntryVersions) (main side : Side) (name : List ℕ)
    → cond (are_different_sides main side) (named name (version_at vs (other_side main))) (named name (version_at vs main))
    ≡ named name (version_at vs side)
counted vs Ours Ours name = refl
counted vs Ours Theirs name = refl
counted vs Theirs Ours name = refl
counted vs Theirs Theirs name = refl

pub returns : goal.returns
returns c vs main prefer name found =
    let takes : List ℕ → Bool = takes_other vs main prefer in
    let merged = merged_fields takes (version_at vs main) (version_at vs (other_side main)) in
    ap (are_equal_fields (find (has_name name) merged)) (sym (counted vs main (unwrap_or (choice vs name) prefer) name))
    ∙ field_is takes (version_at vs main) (version_at vs (other_side main)) name (takes_same vs main prefer name)
    (found_distinct (version_at vs main).entry.fields found)
