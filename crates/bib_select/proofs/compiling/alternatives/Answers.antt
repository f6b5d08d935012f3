use Rattle.std.proofs.lemmas.Result.{err_from_is_err_and}
use Rattle.std.specs.List.{AllZip}
use Rattle.bib_select.specs.Compiled.{HasTermExpression, IsTermOf}
use Rattle.bib_select.specs.Views.{terms_reading_of}
use Rattle.bib_select.proofs.CompileFacts.{all_zip_more, error_of_more, some_at}
use Rattle.bib_select.proofs.compiling.alternatives.Goals as goal

pub returns-in_err-terms-clause-refused : goal.returns-in_err-terms-clause-refused
returns-in_err-terms-clause-refused c =
    let p = err_from_is_err_and c.from_residual.result c.from_residual.ensures.1 in
    let refused = rw (c.deref.ensures.value, c.raw_terms-item.is) at c.in_err-terms.ensures.refused in
    rw (p.1, p.2)
    (error_of_more _
    (λ source at has.
    some_at (λ terms. HasTermExpression terms source at) terms_reading_of c.args.raw.now c.alternatives.raw_terms-index _
    c.alternatives-test.true has)
    refused)

pub alternatives-preserved : goal.alternatives-preserved
alternatives-preserved c =
    let found = rw (c.deref.ensures.value, c.raw_terms-item.is) at c.in_ok-terms.ensures.found in
    rw c.in_ok-push.ensures.items
    (all_zip_more (AllZip IsTermOf) terms_reading_of c.args.raw.now c.alternatives.alternatives c.alternatives.raw_terms-index _ _
    c.alternatives-test.true c.alternatives.invariant found)
