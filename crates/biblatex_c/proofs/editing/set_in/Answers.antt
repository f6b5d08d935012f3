use Rattle.std.proofs.Common.{[], ◌∷◌, sym}
use Rattle.std.proofs.lemmas.Result.{err_from_is_err_and}
use Rattle.edit_entries.specs.Setting.{SetIsRefused}
use Rattle.biblatex_c.specs.Calls.{value_with}
use Rattle.biblatex_c.proofs.FailureFacts.{edit_fails, no_edit_fails}
use Rattle.biblatex_c.proofs.editing.set_in.Goals as goal

pub returns-in_err-document-clause-fails : goal.returns-in_err-document-clause-fails
returns-in_err-document-clause-fails c =
    let p = err_from_is_err_and c.from_residual.result c.from_residual.ensures.1 in
    rw (p.1, p.2)
    (no_edit_fails (λ d why. SetIsRefused d c.args.key.now c.args.name.now (value_with c.args.is_bare c.args.value.now) why) c.args.text.now
    (c.args.key.now ∷ c.args.name.now ∷ c.args.value.now ∷ []) c.in_err-document.field-0.0 c.in_err-document.ensures.fails)

pub returns-in_err-set_field-clause-fails : goal.returns-in_err-set_field-clause-fails
returns-in_err-set_field-clause-fails c =
    let p = err_from_is_err_and c.from_residual-in_err-set_field.result c.from_residual-in_err-set_field.ensures.1 in
    rw (p.1, p.2) (edit_fails (λ d why. SetIsRefused d c.args.key.now c.args.name.now (value_with c.args.is_bare c.args.value.now) why)
    c.args.text.now (c.args.key.now ∷ c.args.name.now ∷ c.args.value.now ∷ []) c.in_ok-document.document
    c.in_err-set_field.field-0.0
    c.in_ok-document.ensures.same c.in_ok-document.ensures.read
    (rw (sym c.in_ok-key.ensures.text, sym c.in_ok-name.ensures.text, sym c.in_ok-value.ensures.text, sym c.value_with.ensures)
    c.in_err-set_field.ensures.refused))

pub returns-clause-made : goal.returns-clause-made
returns-clause-made c = record {
  document = c.in_ok-document.document;
  same = c.in_ok-document.ensures.same;
  read = c.in_ok-document.ensures.read;
  balanced = c.in_ok-document.ensures.balanced;
  edited = rw (sym c.in_ok-key.ensures.text, sym c.in_ok-name.ensures.text, sym c.in_ok-value.ensures.text, sym c.value_with.ensures)
      c.in_ok-set_field.ensures.set;
}
