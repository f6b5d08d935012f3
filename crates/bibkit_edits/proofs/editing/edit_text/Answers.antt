use Rattle.std.proofs.lemmas.Result.{err_from_is_err_and}
use Rattle.bibkit_edits.specs.Edited.AreRefused.{no_memory}
use Rattle.bibkit_edits.proofs.EditedFacts.{first_more, first_none, refused_at}
use Rattle.bibkit_edits.proofs.editing.edit_text.Goals as goal

pub edits-init : goal.edits-init
edits-init c = first_none c.args.text.now

pub returns-in_err-edit_once-clause-refused : goal.returns-in_err-edit_once-clause-refused
returns-in_err-edit_once-clause-refused c =
    let p = err_from_is_err_and c.from_residual.result c.from_residual.ensures.1 in
    rw (p.1, p.2)
    (refused_at c.args.edits.now c.edits.index _ c.in_err-edit_once.field-0.0 c.edits-test.true c.edits.invariant
    c.latest.ensures c.in_err-edit_once.ensures.refused)

pub edits-preserved : goal.edits-preserved
edits-preserved c =
    first_more c.args.edits.now c.edits.index _ c.edits-test.true c.edits.invariant c.latest.ensures
    c.in_ok-edit_once.ensures.made

pub returns-in_err-from_str-in-None-clause-refused :
    goal.returns-in_err-from_str-in-None-clause-refused
returns-in_err-from_str-in-None-clause-refused c =
    let p = err_from_is_err_and c.from_residual-in_err-from_str-in-None.result c.from_residual-in_err-from_str-in-None.ensures.1 in
    rw (p.1, p.2) no_memory
