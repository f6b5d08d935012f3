use Rattle.std.proofs.Common.{ap, sym, ◌∙◌}
use Rattle.std.specs.Prelude.{codes}
use Rattle.std.proofs.lemmas.List.{map-append}
use Rattle.std.proofs.lemmas.Result.{err_from_is_err_and}
use Rattle.bib_select.specs.Views.{term_reading_of, segments_left}
use Rattle.bib_select.proofs.SegmentFacts.{left_is, read_failed, read_more, refused_with}
use Rattle.bib_select.proofs.conditions.terms.Goals as goal

pub returns-in_err-term-clause-refused : goal.returns-in_err-term-clause-refused
returns-in_err-term-clause-refused c =
    let p = err_from_is_err_and c.from_residual.result c.from_residual.ensures.1 in
    let so = left_is (ap (segments_left (codes "and")) c.in-Some.is ∙ c.cut.ensures.cut) c.segments.invariant in
    rw (p.1, p.2) (refused_with _ (read_failed _ so (sym c.in_err-term.ensures)))

pub segments-preserved : goal.segments-preserved
segments-preserved c =
    let so = left_is (ap (segments_left (codes "and")) c.in-Some.is ∙ c.cut.ensures.cut) c.segments.invariant in
    rw (c.in_ok-push.ensures.items, map-append term_reading_of _ _)
    (read_more (term_reading_of c.in_ok-term.field-0) so (sym c.in_ok-term.ensures))
