use Rattle.std.proofs.lemmas.Result.{err_from_is_err_and}
use Rattle.bib_abbreviations.specs.Expanding.{known_to}
use Rattle.bib_abbreviations.proofs.PieceFacts.{text_says, text_refused, text_placed}
use Rattle.bib_abbreviations.proofs.abbreviations.Expansion.expand.Goals as goal

pub returns-in_err-contents-clause-refused : goal.returns-in_err-contents-clause-refused
returns-in_err-contents-clause-refused c =
    let p = err_from_is_err_and c.from_residual.result c.from_residual.ensures.1 in
    rw (p.1, p.2) (text_refused {definitions = known_to c.args.self} c.args.piece.now c.in-Normal.text _ c.in-Normal.is
    c.in_err-contents.ensures.fails c.in_err-contents.ensures.within)

pub returns-in-Normal-clause-said : goal.returns-in-Normal-clause-said
returns-in-Normal-clause-said c =
    let read = c.in_ok-contents.ensures.read in
    (read.0, text_says c.args.piece.now c.in-Normal.text c.in-Normal.is read.1, read.2)

pub returns-in-Normal-clause-placed : goal.returns-in-Normal-clause-placed
returns-in-Normal-clause-placed c = λ p named long low placed.
    text_placed c.args.out.now c.contents.new.out c.args.piece.now c.in-Normal.text p low c.in-Normal.is named long
    (c.in_ok-contents.ensures.placed low) placed
