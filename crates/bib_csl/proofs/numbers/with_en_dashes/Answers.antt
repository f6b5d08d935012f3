use Rattle.std.proofs.Common.{◌∙◌, sym}
use Rattle.std.proofs.lemmas.List.{append-nil}
use Rattle.bib_text.proofs.TextFacts.{less_after}
use Rattle.bib_csl.proofs.TagFacts.{pages_step, pages_end}
use Rattle.bib_csl.proofs.numbers.with_en_dashes.Goals as goal

pub text-smaller : goal.text-smaller
text-smaller c = less_after c.in-Some.ensures

pub text-preserved : goal.text-preserved
text-preserved c =
    let step =
    pages_step c.text.out c.push_page_sign.new.out _ c.text.follows_dash _ c.in-Some.ensures c.text.invariant.1
    c.in_ok-push_page_sign.ensures c.follows_dash_after-follows_dash.ensures c.text.invariant.2 in
    (step.0 ∙ c.text.invariant.0, step.1, step.2)

pub returns : goal.returns
returns c =
    sym (append-nil c.text.out)
    ∙ pages_end c.text.out _ c.text.follows_dash c.text.scanner c.in_default.ensures.0 c.text.invariant.2
