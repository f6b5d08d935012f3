use Rattle.edit_merge.specs.RenameViews.{rename_view}
use Rattle.edit_merge.proofs.RenameFacts.{next_key}
use Rattle.edit_merge.proofs.renames.keys_of.Goals as goal

pub renames-preserved : goal.renames-preserved
renames-preserved c = λ key.
    next_key rename_view c.args.renames.now c.renames.rename-index _ key _ _ c.renames-test.true (c.renames.invariant key)
    (c.in_ok-give_key.ensures key)
