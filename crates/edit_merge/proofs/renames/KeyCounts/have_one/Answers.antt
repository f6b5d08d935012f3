use Rattle.std.proofs.Common.{sym, ◌∙◌}
use Rattle.edit_merge.specs.RenameViews.{rename_view}
use Rattle.edit_merge.proofs.RenameFacts.{none_in_base, none_in_ours, one_in_theirs}
use Rattle.edit_merge.proofs.renames.KeyCounts.have_one.Goals as goal

pub returns-then-not-has_one : goal.returns-then-not-has_one
returns-then-not-has_one c = λ ds are.
    none_in_base ds c.args.self.now (rename_view c.args.rename) are (sym c.has_one.ensures ∙ c.if-not-has_one.true)

pub returns-then-not-has_one-2 : goal.returns-then-not-has_one-2
returns-then-not-has_one-2 c = λ ds are.
    none_in_ours ds c.args.self.now (rename_view c.args.rename) are (sym c.has_one.ensures ∙ c.if-not-has_one.false)
    (sym c.has_one-2.ensures ∙ c.if-not-has_one-2.true)

pub returns : goal.returns
returns c = λ ds are.
    one_in_theirs ds c.args.self.now (rename_view c.args.rename) _ are (sym c.has_one.ensures ∙ c.if-not-has_one.false)
    (sym c.has_one-2.ensures ∙ c.if-not-has_one-2.false) c.has_one-3.ensures
