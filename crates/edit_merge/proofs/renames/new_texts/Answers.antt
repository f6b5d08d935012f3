use Rattle.std.proofs.lemmas.Result.{err_from_is_err_and}
use Rattle.edit_merge.specs.RenameViews.{documents_of, replacement_in}
use Rattle.edit_merge.specs.Renames.{AreNewTexts}
use Rattle.edit_merge.proofs.RenameFacts.{base_refused, ours_refused, theirs_refused}
use Rattle.edit_merge.proofs.renames.new_texts.Goals as goal

pub returns-clause-texts : goal.returns-clause-texts
returns-clause-texts c =
    AreNewTexts.renamed c.in_ok-new_text.ensures.text c.in_ok-new_text-2.ensures.text c.in_ok-new_text-3.ensures.text

pub returns-in_err-new_text-clause-refused : goal.returns-in_err-new_text-clause-refused
returns-in_err-new_text-clause-refused c =
    let p = err_from_is_err_and c.from_residual.result c.from_residual.ensures.1 in
    rw (p.1, p.2) (base_refused (replacement_in c.args.keys.now) (documents_of c.args.documents) c.in_err-new_text.field-0.0
    c.in_err-new_text.ensures.refused)

pub returns-in_err-new_text-2-clause-refused : goal.returns-in_err-new_text-2-clause-refused
returns-in_err-new_text-2-clause-refused c =
    let p = err_from_is_err_and c.from_residual-in_err-new_text-2.result c.from_residual-in_err-new_text-2.ensures.1 in
    rw (p.1, p.2) (ours_refused (replacement_in c.args.keys.now) (documents_of c.args.documents) c.in_err-new_text-2.field-0.0
    c.in_err-new_text-2.ensures.refused)

pub returns-in_err-new_text-3-clause-refused : goal.returns-in_err-new_text-3-clause-refused
returns-in_err-new_text-3-clause-refused c =
    let p = err_from_is_err_and c.from_residual-in_err-new_text-3.result c.from_residual-in_err-new_text-3.ensures.1 in
    rw (p.1, p.2) (theirs_refused (replacement_in c.args.keys.now) (documents_of c.args.documents) c.in_err-new_text-3.field-0.0
    c.in_err-new_text-3.ensures.refused)
