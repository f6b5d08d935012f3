use Rattle.std.proofs.Common.{◌++◌, map, take, sym, ap, ◌∙◌, subst}
use Rattle.std.specs.List.{AllByRecursion}
use Rattle.std.proofs.lemmas.Result.{err_from_is_err_and}
use Rattle.bib_syntax.specs.Views.{entry_reading_of, field_of}
use Rattle.edit_entries.specs.NewKeys.{key_for, name_for}
use Rattle.edit_entries.specs.References.{CanBeMade, change_edit, key_change, reference_changes, renaming}
use Rattle.edit_entries.specs.EditList.{edit_of}
use Rattle.edit_entries.specs.Stretches.{AreValuesPlaced, EndsInWhite}
use Rattle.edit_entries.proofs.ChangeListFacts.{key_all, pushed, refused_more, renaming_at, renaming_more}
use Rattle.edit_entries.proofs.PositionFacts.{slice_get-map}
use Rattle.edit_entries.proofs.renaming.renaming_edits.Goals as goal
use Rattle.bib_text.proofs.ListFacts.{all_append}

pub push_reference_edits-requires : goal.push_reference_edits-requires
push_reference_edits-requires c =
    let entry = c.index-entries-index.result in
    subst (λ fs. AreValuesPlaced c.args.text.now (map field_of fs)) (sym c.deref.ensures.value)
    (c.requires.placed c.entries.index (entry_reading_of entry)
    (slice_get-map entry_reading_of c.args.entries.now c.entries.index entry c.entries-test.true
    c.index-entries-index.is))

pub returns-in_err-push_reference_edits-clause-refused : goal.returns-in_err-push_reference_edits-clause-refused
returns-in_err-push_reference_edits-clause-refused c =
    let p = err_from_is_err_and c.from_residual-in_err-push_reference_edits.result c.from_residual-in_err-push_reference_edits.ensures.1 in
    let entry = c.index-entries-index.result in
    let names = name_for c.args.names.now in
    let keys = key_for c.args.names.now.keys in
    let part =
    λ (all : AllByRecursion CanBeMade (renaming names keys 0 (map entry_reading_of c.args.entries.now))).
    subst (λ fs. AllByRecursion CanBeMade (reference_changes names (map field_of fs))) (sym c.deref.ensures.value)
    (renaming_at entry_reading_of names keys c.args.entries.now c.entries.index entry
    c.entries-test.true c.index-entries-index.is CanBeMade all) in
    rw (p.1, p.2) (refused_more
    (AllByRecursion CanBeMade (reference_changes names (map field_of c.deref.result.now)))
    (AllByRecursion CanBeMade (renaming names keys 0 (map entry_reading_of c.args.entries.now))) _
    part c.in_err-push_reference_edits.ensures.refused)

pub entries-preserved : goal.entries-preserved
entries-preserved c =
    let names = name_for c.args.names.now in
    let keys = key_for c.args.names.now.keys in
    let text = c.args.text.now in
    let entry = c.index-entries-index.result in
    let e = entry_reading_of entry in
    let before = renaming names keys 0 (map entry_reading_of (take c.entries.index c.args.entries.now)) in
    let key = key_change (keys c.entries.index) e in
    let refs = reference_changes names e.fields in
    let more =
    sym
    (renaming_more entry_reading_of names keys c.args.entries.now
    c.entries.index entry c.entries-test.true c.index-entries-index.is) in
    let fields = c.deref.ensures.value in
    let added = c.in_ok-push_reference_edits.ensures in
    let own =
    c.in_ok-push_key_edit.ensures text
    ∙ ap (λ o. map edit_of c.entries.edits.items ++ map (change_edit text) (key_change o e)) c.at.ensures in
    let edits = pushed text before key refs (map edit_of c.entries.edits.items)
    (map edit_of c.push_key_edit.new.edits.items) (map edit_of c.push_reference_edits.new.edits.items)
    c.entries.invariant.0 own
    (added.edits
    ∙ ap
    (λ fs.
    map edit_of c.push_key_edit.new.edits.items
    ++ map (change_edit text) (reference_changes names (map field_of fs)))
    fields) in
    let can = subst (λ fs. AllByRecursion CanBeMade (reference_changes names (map field_of fs))) fields added.can in
    let white = subst (λ fs. AllByRecursion (EndsInWhite text) (reference_changes names (map field_of fs))) fields added.white in (
      edits ∙ ap (map (change_edit text)) more,
      subst (AllByRecursion CanBeMade) more
          (all_append CanBeMade before (key ++ refs) c.entries.invariant.1
          (all_append CanBeMade key refs
          (key_all CanBeMade (keys c.entries.index) e (λ new gets. c.requires.keys c.entries.index new c.entries-test.true gets)) can)),
      subst (AllByRecursion (EndsInWhite text)) more
          (all_append (EndsInWhite text) before (key ++ refs) c.entries.invariant.2
          (all_append (EndsInWhite text) key refs
          (key_all (EndsInWhite text) (keys c.entries.index) e (λ new gets. tt)) white)),
    )
