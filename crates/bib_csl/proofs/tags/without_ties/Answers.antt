use Rattle.std.proofs.Common.{◌∙◌, sym}
use Rattle.std.proofs.lemmas.List.{append-nil}
use Rattle.bib_text.proofs.TextFacts.{less_after}
use Rattle.bib_csl.proofs.TagFacts.{loosened_step, loosened_end}
use Rattle.bib_csl.proofs.tags.without_ties.Goals as goal

pub text-smaller : goal.text-smaller
text-smaller c = less_after c.in-Some.ensures

pub text-preserved : goal.text-preserved
text-preserved c =
    let step =
    loosened_step c.text.out c.push_loosened.new.out _ c.in-Some.ensures c.text.invariant.1 c.in_ok-push_loosened.ensures
    c.text.invariant.2 in
    (step.0 ∙ c.text.invariant.0, step.1, step.2)

pub returns : goal.returns
returns c = sym (append-nil c.text.out) ∙ loosened_end c.text.out _ c.text.scanner c.in_default.ensures.0 c.text.invariant.2
