use Rattle.std.proofs.Common.{◌≡◌, ◌⊎◌, inl, inr, ◌++◌, ◌∙◌, ℕ, List, ◌∷◌, ap, length, map, refl, subst, sym}
use Rattle.std.specs.Prelude.{zip}
use Rattle.std.proofs.lemmas.List.{length-map}
use Rattle.std.specs.String.{string_bytes}
use Rattle.edit_entry_merge.specs.Views.{merge_of}
use Rattle.edit_merge.specs.Entries.{IsSlotMerge, version_on}
use Rattle.edit_merge.specs.Picked.{Versions, slot_of}
use Rattle.edit_merge.specs.Views.{versions_of}
use Rattle.edit_merge.specs.declared.entries.Side.{Side}
use Rattle.edit_units.specs.Units.{UnitTexts}
use Rattle.edit_units.specs.Views.{unit_texts_of}
use Rattle.edit_versions.specs.Versions.{VersionReading, version_names, version_texts}
use Rattle.edit_merge.proofs.EntryFacts.{IsAhead, all_merged, side_merged, unit_merged}
use Rattle.edit_merge.proofs.entries.with_merged_entries.Goals.{in-Ours, in-Theirs}
use Rattle.edit_merge.proofs.entries.with_merged_entries.Goals as goal

pub units-preserved : goal.units-preserved
units-preserved c =
    let vs : Versions = versions_of c.args.versions in
    let all : List (List ℕ × UnitTexts) = zip (version_names c.match-side.version.now) (version_texts c.match-side.version.now) in
    let steps = c.in-Some.ensures.steps in
    let is : IsSlotMerge vs c.in-Some.name.now (slot_of vs c.in-Some.name.now) (merge_of c.in_ok-merge.merge) =
    subst (λ s. IsSlotMerge vs c.in-Some.name.now s (merge_of c.in_ok-merge.merge))
    (c.in_ok-slot.ensures ∙ ap (slot_of vs) c.as_str.ensures)
    (subst (λ n. IsSlotMerge vs n c.in_ok-slot.slot (merge_of c.in_ok-merge.merge)) c.as_str-in-units.ensures c.in_ok-merge.ensures) in
    let ahead = subst (λ ns. IsAhead c.args.side vs all (string_bytes c.units.text)
    (zip ns (map unit_texts_of c.units.name-iterator.b.rest.now))) steps.0 c.units.invariant.ahead in
    record {
      ahead =
          unit_merged (merge_of c.in_ok-merge.merge) (string_bytes c.units.text) is c.in_ok-push_unit.ensures
          (subst (λ us. IsAhead c.args.side vs all (string_bytes c.units.text) (zip (c.in-Some.name.now ∷ c.next.new.self.a.rest.now)
          (map unit_texts_of us))) steps.1 ahead);
    }

pub returns : goal.returns
returns c =
    let on : Side → VersionReading = λ s. version_on s (versions_of c.args.versions) in
    let same : c.match-side.version.now ≡ on c.args.side =
    elim c.match-side.branch [
      | in-Ours w ↦ ap (λ v. v.now) w.version-is ∙ ap on (sym w.in-Ours.is)
      | in-Theirs w ↦ ap (λ v. v.now) w.version-is ∙ ap on (sym w.in-Theirs.is)
    ] in
    let ended : (length c.units.name-iterator.a.rest.now ≡ 0) ⊎ (length (map unit_texts_of c.units.name-iterator.b.rest.now) ≡ 0) =
    elim c.in-None.ensures.steps [
      | inl w ↦ inl w.1.0
      | inr w ↦ inr (length-map c.units.name-iterator.b.rest.now unit_texts_of ∙ w.1.0)
    ] in
    side_merged c.match-side.version.now same
    (all_merged c.units.name-iterator.a.rest.now (map unit_texts_of c.units.name-iterator.b.rest.now) ended c.units.invariant.ahead)
    (c.in_ok-push_str.ensures.bytes ∙ ap (λ e. string_bytes c.units.text ++ e) c.end.ensures)
