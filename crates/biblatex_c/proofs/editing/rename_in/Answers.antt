use Rattle.std.proofs.Common.{[], ◌∷◌, sym}
use Rattle.std.proofs.lemmas.Result.{err_from_is_err_and}
use Rattle.edit_entries.specs.References.{RenameIsRefused}
use Rattle.biblatex_c.proofs.FailureFacts.{edit_fails, no_edit_fails}
use Rattle.biblatex_c.proofs.editing.rename_in.Goals as goal

pub returns-in_err-document-clause-fails : goal.returns-in_err-document-clause-fails
returns-in_err-document-clause-fails c =
    let p = err_from_is_err_and c.from_residual.result c.from_residual.ensures.1 in
    rw (p.1, p.2)
    (no_edit_fails (λ d why. RenameIsRefused d c.args.old.now c.args.new.now why) c.args.text.now
    (c.args.old.now ∷ c.args.new.now ∷ []) c.in_err-document.field-0.0 c.in_err-document.ensures.fails)

pub returns-in_err-rename_key-clause-fails : goal.returns-in_err-rename_key-clause-fails
returns-in_err-rename_key-clause-fails c =
    let p = err_from_is_err_and c.from_residual-in_err-rename_key.result c.from_residual-in_err-rename_key.ensures.1 in
    rw (p.1, p.2) (edit_fails (λ d why. RenameIsRefused d c.args.old.now c.args.new.now why) c.args.text.now
    (c.args.old.now ∷ c.args.new.now ∷ []) c.in_ok-document.document c.in_err-rename_key.field-0.0
    c.in_ok-document.ensures.same c.in_ok-document.ensures.read
    (rw (sym c.in_ok-old.ensures.text, sym c.in_ok-new.ensures.text) c.in_err-rename_key.ensures.refused))

pub returns-clause-made : goal.returns-clause-made
returns-clause-made c = record {
  document = c.in_ok-document.document;
  same = c.in_ok-document.ensures.same;
  read = c.in_ok-document.ensures.read;
  balanced = c.in_ok-document.ensures.balanced;
  edited = rw (sym c.in_ok-old.ensures.text, sym c.in_ok-new.ensures.text) c.in_ok-rename_key.ensures.renamed;
}
