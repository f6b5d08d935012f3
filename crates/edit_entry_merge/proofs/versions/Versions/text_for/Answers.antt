use Rattle.std.proofs.Common.{◌≡◌, ◌∙◌, ℕ, Bool, List, ap, filter, map, subst, sym, None}
use Rattle.std.specs.List.{AllByRecursion}
use Rattle.bib_syntax.specs.Reading.{FieldReading}
use Rattle.bib_syntax.specs.Views.{field_of}
use Rattle.edit_entries.specs.Changes.{EntryChange, edits_of_entry, edits_of_fields}
use Rattle.edit_entries.specs.EditList.{AreEditsInOrder, edit_of}
use Rattle.edit_entries.specs.Placed.{IsPlaced}
use Rattle.edit_entry_merge.specs.Choices.{other_side, takes_other, version_at}
use Rattle.edit_entry_merge.specs.Mixed.{mixed_field_changes}
use Rattle.edit_entry_merge.specs.Picks.{is_added, pick}
use Rattle.edit_entry_merge.specs.Versions.{Version, EntryVersions}
use Rattle.edit_entry_merge.specs.Working.{AreEditable, IsPickPlaced, added_fields, pick_of, version_reading, versions_reading}
use Rattle.edit_entry_merge.proofs.MixedFacts.{all_values, editable, filtered, in_order, picks_placed}
use Rattle.edit_entry_merge.proofs.versions.Versions.text_for.Goals as goal

pub entry_edits-requires-clause-fields : goal.entry_edits-requires-clause-fields
entry_edits-requires-clause-fields c =
    let v : Version = version_reading c.at-version.result.now in
    subst (λ l. AreEditable v.text (map field_of l)) (sym c.as_slice-fields.ensures.value) (editable v c.at-version.ensures.indexed.read)

pub entry_edits-requires-clause-picks : goal.entry_edits-requires-clause-picks
entry_edits-requires-clause-picks c =
    let vs : EntryVersions = versions_reading c.args.self.now in
    let w : Version = version_reading c.at-other.result.now in
    let same : w ≡ version_at vs (other_side c.args.main) = c.at-other.ensures.version ∙ ap (version_at vs) c.other.ensures in
    let takes : List ℕ → Bool = takes_other vs c.args.main c.args.prefer in
    let fs : List FieldReading = map field_of c.as_slice-fields.result.now in
    subst (AllByRecursion (IsPickPlaced w.text)) (sym (ap (map pick_of) c.deref-4.ensures.value ∙ c.in_ok-picks.ensures))
    (subst (λ o. AllByRecursion (IsPickPlaced w.text) (map (pick takes o) fs)) same
    (picks_placed takes w fs (all_values w c.at-other.ensures.indexed.read)))

pub entry_edits-requires-clause-added : goal.entry_edits-requires-clause-added
entry_edits-requires-clause-added c =
    let vs : EntryVersions = versions_reading c.args.self.now in
    let w : Version = version_reading c.at-other.result.now in
    let takes : List ℕ → Bool = takes_other vs c.args.main c.args.prefer in
    let test : FieldReading → Bool = is_added takes (version_at vs c.args.main) in
    subst (AllByRecursion (IsPlaced w.text))
    (sym
    (ap added_fields c.deref-5.ensures.value ∙ c.in_ok-added.ensures
    ∙ ap (λ l. filter test (map field_of l)) c.deref.ensures.value))
    (filtered (IsPlaced w.text) test w.entry.fields (all_values w c.at-other.ensures.indexed.read))

pub edited_all-requires : goal.edited_all-requires
edited_all-requires c =
    let v : Version = version_reading c.at-version.result.now in
    let w : Version = version_reading c.at-other.result.now in
    let fs : List FieldReading = map field_of c.as_slice-fields.result.now in
    let change : EntryChange = record {
      kind = None;
      fields = mixed_field_changes v.text w.text fs (added_fields c.deref-5.result.now) (map pick_of c.deref-4.result.now) fs;
    } in
    let edits : map edit_of c.deref-6.result.now ≡ edits_of_entry v.text v.entry change =
    ap (map edit_of) c.deref-6.ensures.value ∙ c.in_ok-edits.ensures
    ∙ ap (λ l. edits_of_fields v.text (map field_of l) change.fields) c.as_slice-fields.ensures.value in
    subst (AreEditsInOrder v.text 0) (sym edits) (in_order v c.at-version.ensures.indexed.read change)
