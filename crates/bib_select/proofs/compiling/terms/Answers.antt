use Rattle.std.proofs.Common.{refl}
use Rattle.std.proofs.lemmas.Result.{err_from_is_err_and}
use Rattle.bib_select.specs.Compiled.{HasExpression, IsTermOf}
use Rattle.bib_select.specs.Views.{term_reading_of}
use Rattle.bib_select.proofs.CompileFacts.{all_zip_more, error_of_more, some_at}
use Rattle.bib_select.proofs.compiling.terms.Goals as goal

pub returns-in_err-test-clause-refused : goal.returns-in_err-test-clause-refused
returns-in_err-test-clause-refused c =
    let p = err_from_is_err_and c.from_residual.result c.from_residual.ensures.1 in
    rw (p.1, p.2)
    (error_of_more _
    (λ source at has.
    some_at (λ term. HasExpression term.test source at) term_reading_of c.args.raw.now c.terms.term-index _ c.terms-test.true has)
    c.in_err-test.ensures.refused)

pub terms-preserved : goal.terms-preserved
terms-preserved c =
    rw c.in_ok-push.ensures.items
    (all_zip_more IsTermOf term_reading_of c.args.raw.now c.terms.terms c.terms.term-index _ _ c.terms-test.true c.terms.invariant
    (record { negated = refl; test = c.in_ok-test.ensures.found }))
