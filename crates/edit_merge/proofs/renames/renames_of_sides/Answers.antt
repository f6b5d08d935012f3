use Rattle.std.proofs.Common.{◌≡◌, ◌++◌, [], ◌∷◌, ap, map, sym, ◌∙◌}
use Rattle.std.specs.Prelude.{option_map, option_to_list}
use Rattle.std.proofs.lemmas.List.{append-nil, map-append}
use Rattle.edit_merge.specs.RenameViews.{rename_view}
use Rattle.edit_merge.specs.Renames.{rename_at, renames_of_sides}
use Rattle.edit_merge.specs.Views.{versions_of}
use Rattle.edit_merge.proofs.RenameFacts.{index_found, more_renames, rename_found}
use Rattle.edit_merge.proofs.renames.renames_of_sides.Goals as goal
use Rattle.edit_merge.proofs.renames.renames_of_sides.Goals.{in-Some+in_ok-push, in_default}

pub names-preserved : goal.names-preserved
names-preserved c =
    let vs = versions_of c.args.versions in
    let index = c.names.index in
    let names = c.names-names.result.now in
    let ours =
    index_found vs.base vs.ours names index c.deref.result.now c.index_in-our_index.result c.names-names.ensures c.names-test.true
    c.index_in-our_index.ensures (c.deref.ensures.value ∙ c.in_ok-ours.ensures) in
    let theirs =
    index_found vs.base vs.theirs names index c.deref-in-names.result.now c.index_in-their_index.result c.names-names.ensures
    c.names-test.true c.index_in-their_index.ensures (c.deref-in-names.ensures.value ∙ c.in_ok-theirs.ensures) in
    let found : option_map rename_view c.rename_at.result ≡ rename_at vs index =
    rename_found vs index (option_map rename_view c.rename_at.result) c.index_in-our_index.result c.index_in-their_index.result ours
    theirs c.rename_at.ensures in
    let old = map rename_view c.names.renames.items in
    let new : map rename_view c.match-rename_at.renames.items ≡ old ++ option_to_list (rename_at vs index) =
    elim c.match-rename_at.branch [
      | in-Some+in_ok-push w ↦
          ap (λ v. map rename_view v.items) w.renames-is ∙ ap (map rename_view) w.in_ok-push.ensures.items
          ∙ map-append rename_view c.names.renames.items (w.in-Some.rename ∷ [])
          ∙ ap (λ o. old ++ option_to_list o) (sym (ap (option_map rename_view) w.in-Some.is) ∙ found)
      | in_default w ↦
          ap (λ v. map rename_view v.items) w.renames-is ∙ sym (append-nil old)
          ∙ ap (λ o. old ++ option_to_list o) (sym (ap (option_map rename_view) w.in_default.is) ∙ found)
    ] in
    more_renames (rename_at vs) names index old (map rename_view c.match-rename_at.renames.items) _ c.names-test.true new
    c.names.invariant
