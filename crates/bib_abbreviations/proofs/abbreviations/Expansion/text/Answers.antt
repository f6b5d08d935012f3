use Rattle.std.proofs.Common.{◌∙◌, ap, ◌++◌}
use Rattle.std.proofs.lemmas.Result.{err_from_is_err_and}
use Rattle.bib_abbreviations.specs.Expanding.{known_to}
use Rattle.bib_abbreviations.proofs.MemoFacts.{expands_text, unread_reported}
use Rattle.bib_abbreviations.proofs.abbreviations.Expansion.text.Goals as goal

pub returns-in_err-contents-clause-refused : goal.returns-in_err-contents-clause-refused
returns-in_err-contents-clause-refused c =
    let p = err_from_is_err_and c.from_residual.result c.from_residual.ensures.1 in
    rw (p.1, p.2) (unread_reported {definitions = known_to c.args.self} c.args.text.now c.args.offset _
    c.in_err-contents.ensures.fails c.in_err-contents.ensures.within)

pub returns-clause-said : goal.returns-clause-said
returns-clause-said c = λ p same.
    let read = rw c.new-part.ensures at c.in_ok-contents.ensures.read in
    expands_text c.contents.new.out p c.args.text.now read.1 read.2
    (c.in_ok-append.ensures.items ∙ ap (λ part. c.args.memo.now.values.items ++ part) c.into_vec.ensures) same
