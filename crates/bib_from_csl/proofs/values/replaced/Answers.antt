use Rattle.std.proofs.Common.{◌∙◌, sym}
use Rattle.std.proofs.lemmas.List.{append-nil}
use Rattle.bib_text.proofs.TextFacts.{less_after}
use Rattle.bib_from_csl.specs.Values.{replacing}
use Rattle.bib_from_csl.proofs.ScanFacts.{scanned_step, scanned_end}
use Rattle.bib_from_csl.proofs.values.replaced.Goals as goal

pub text-smaller : goal.text-smaller
text-smaller c = less_after c.in-Some.ensures

pub text-preserved : goal.text-preserved
text-preserved c =
    let step =
    scanned_step (replacing c.args.replaced c.args.with.now) c.text.out c.push_replaced.new.out _ c.in-Some.ensures
    c.text.invariant.1 c.in_ok-push_replaced.ensures c.text.invariant.2 in
    (step.0 ∙ c.text.invariant.0, step.1, step.2)

pub returns : goal.returns
returns c =
    sym (append-nil c.text.out)
    ∙ scanned_end (replacing c.args.replaced c.args.with.now) c.text.out _ c.text.scanner c.in_default.ensures.0
    c.text.invariant.2
