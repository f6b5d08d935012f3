use Rattle.std.proofs.Common.{ap, ◌∙◌}
use Rattle.std.specs.Prelude.{codes}
use Rattle.std.proofs.lemmas.List.{map-append}
use Rattle.std.proofs.lemmas.Result.{err_from_is_err_and}
use Rattle.bib_select.specs.Views.{terms_reading_of, segments_left}
use Rattle.bib_select.proofs.SegmentFacts.{left_is, read_more, read_refused}
use Rattle.bib_select.proofs.conditions.alternatives.Goals as goal

pub returns-in_err-terms-clause-refused : goal.returns-in_err-terms-clause-refused
returns-in_err-terms-clause-refused c =
    let p = err_from_is_err_and c.from_residual.result c.from_residual.ensures.1 in
    let so = left_is (ap (segments_left (codes "or")) c.in-Some.is ∙ c.cut.ensures.cut) c.segments.invariant in
    rw (p.1, p.2) (read_refused _ so c.in_err-terms.ensures.refused)

pub segments-preserved : goal.segments-preserved
segments-preserved c =
    let so = left_is (ap (segments_left (codes "or")) c.in-Some.is ∙ c.cut.ensures.cut) c.segments.invariant in
    rw (c.in_ok-push.ensures.items, map-append terms_reading_of _ _)
    (read_more (terms_reading_of c.in_ok-terms.field-0) so c.in_ok-terms.ensures.found)
