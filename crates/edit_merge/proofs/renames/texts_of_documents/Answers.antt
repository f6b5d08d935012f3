use Rattle.std.proofs.Common.{IfOk, ap, map, subst, ◌∙◌}
use mathlib.Core.Path.{fun_ext}
use Rattle.edit_merge.specs.RenameViews.{documents_of, rename_view}
use Rattle.edit_merge.specs.Renames.{AreNewTexts, new_key}
use Rattle.edit_merge.specs.Views.{new_texts_of}
use Rattle.edit_merge.proofs.renames.texts_of_documents.Goals as goal

pub returns : goal.returns
returns c =
    subst (λ f. IfOk c.new_texts_or_none.result (λ t. AreNewTexts f (documents_of c.args.documents) (new_texts_of t)))
    (fun_ext (λ key.
    c.in_ok-keys.ensures key ∙ ap (λ l. new_key (map rename_view l) key) c.deref.ensures.value
    ∙ ap (λ rs. new_key rs key) (c.in_ok-counted.ensures (documents_of c.args.documents) c.in_ok-counts.ensures)))
    c.new_texts_or_none.ensures
