use Rattle.std.proofs.Common.{◌∙◌, sym, subst}
use Rattle.std.specs.Str.{IsCharBoundary}
use Rattle.std.proofs.lemmas.List.{append-nil}
use Rattle.bib_text.proofs.TextFacts.{less_after}
use Rattle.bib_csl.specs.Sentence.{title_in_sentence_case}
use Rattle.bib_csl.proofs.SentenceFacts.{cased_step, cased_end, depth_fits, depth_step, rest_of_title}
use Rattle.bib_csl.proofs.sentence.title_in_sentence_case.Goals as goal

pub title-smaller : goal.title-smaller
title-smaller c = less_after c.in-Some.ensures

pub range_from-after-requires : goal.range_from-after-requires
range_from-after-requires c =
    λ some.
    subst (λ t. IsCharBoundary t c.cursor-next.result) (c.in-Some.ensures.same ∙ c.title.invariant.0) c.cursor-next.ensures.boundary

pub context_after-at-requires : goal.context_after-at-requires
context_after-at-requires c =
    depth_fits c.title.at c.in-Some.ensures c.cursor-next.ensures.place c.cursor-next.ensures.boundary c.cursor-next.ensures.fits
    c.title.invariant.3

pub title-preserved : goal.title-preserved
title-preserved c =
    let after =
    rest_of_title c.args.title.now c.range_from-after.result.now c.in-Some.ensures c.title.invariant.0 c.cursor-next.ensures.place
    c.range_from-after.ensures.value in
    let step =
    cased_step c.title.out c.push.new.self _ c.range_from-after.result.now c.title.at c.context_after-at.result c.in-Some.ensures
    c.title.invariant.1 after c.cased.ensures c.in_ok-push.ensures c.context_after-at.ensures c.title.invariant.2 in (
      step.0 ∙ c.title.invariant.0,
      step.1,
      step.2,
      depth_step c.title.at _ c.range_from-after.result.now c.in-Some.ensures c.context_after-at.ensures c.title.invariant.3,
    )

pub returns : goal.returns
unfolding title_in_sentence_case
returns c = sym (append-nil c.title.out) ∙ cased_end c.title.out _ c.title.at c.title.scanner c.in_default.ensures.0 c.title.invariant.2
