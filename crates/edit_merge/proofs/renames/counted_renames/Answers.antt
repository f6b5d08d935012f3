use Rattle.std.proofs.Common.{◌≡◌, ap, map, ◌∙◌}
use Rattle.std.proofs.lemmas.List.{map-append}
use Rattle.edit_merge.specs.RenameViews.{rename_view}
use Rattle.edit_merge.specs.Renames.{have_one}
use Rattle.edit_merge.proofs.RenameFacts.{more_counted}
use Rattle.edit_merge.proofs.RenameFacts.IsCounted.{appended, skipped}
use Rattle.edit_merge.proofs.renames.counted_renames.Goals as goal
use Rattle.edit_merge.proofs.renames.counted_renames.Goals.{then-have_one+in_ok-push, else-have_one}

pub renames-preserved : goal.renames-preserved
renames-preserved c = λ ds are.
    more_counted (have_one ds) rename_view c.args.renames.now c.renames.rename-index _ c.have_one.result
    (map rename_view c.renames.found.items) (map rename_view c.if-have_one.found.items) _ c.renames-test.true (c.have_one.ensures ds are)
    (elim c.if-have_one.branch [
      | then-have_one+in_ok-push w ↦
          appended w.if-have_one.true
          (ap (λ v. map rename_view v.items) w.found-is ∙ ap (map rename_view) w.in_ok-push.ensures.items
          ∙ map-append rename_view c.renames.found.items _)
      | else-have_one w ↦ skipped w.if-have_one.false (ap (λ v. map rename_view v.items) w.found-is)
    ])
    (c.renames.invariant ds are)
