use Rattle.std.proofs.Common.{subst}
use Rattle.std.proofs.lemmas.Result.{err_from_is_err_and}
use Rattle.biblatex.specs.Headline.{IsBibliographyOf}
use Rattle.biblatex_c.proofs.FailureFacts.{bibliography_fails}
use Rattle.biblatex_c.proofs.reading.bibliography_of.Goals as goal

pub returns-in_err-bibliography-clause-fails : goal.returns-in_err-bibliography-clause-fails
returns-in_err-bibliography-clause-fails c =
    let p = err_from_is_err_and c.from_residual-in_err-bibliography.result c.from_residual-in_err-bibliography.ensures.1 in
    rw (p.1, p.2)
    (bibliography_fails c.args.bytes.now c.in_ok-text_of.field-0.now c.in_err-bibliography.field-0.0
    c.in_ok-text_of.ensures.text c.in_err-bibliography.ensures.refused)

pub returns-clause-loaded : goal.returns-clause-loaded
returns-clause-loaded c =
    subst (λ t. IsBibliographyOf t c.in_ok-bibliography.bibliography) c.in_ok-text_of.ensures.text c.in_ok-bibliography.ensures.loaded
