use Rattle.std.proofs.Common.{◌∙◌, ◌++◌, ap, reverse}
use Rattle.bib_text.proofs.TextFacts.{less_after}
use Rattle.bib_csl.specs.Markup.{said}
use Rattle.bib_csl.proofs.TagFacts.{marked_step, marked_end}
use Rattle.bib_csl.proofs.tags.without_commands.Goals as goal

pub text-smaller : goal.text-smaller
text-smaller c = less_after c.in-Some.ensures

pub text-preserved : goal.text-preserved
text-preserved c =
    let step = marked_step c.args.has_tags c.text.out c.push_said.new.out _ (reverse c.text.names) (reverse c.open_after.new.names)
    c.text.name c.in_ok-name.name c.in-Some.ensures c.text.invariant.1
    (c.in_ok-push_said.ensures ∙ ap (λ t. c.text.out ++ said c.args.has_tags (reverse t) c.text.name c.in-Some.c) c.as_slice.ensures)
    c.in_ok-open_after.ensures c.in_ok-name.ensures c.text.invariant.2 in
    (step.0 ∙ c.text.invariant.0, step.1, step.2)

pub returns : goal.returns
unfolding Rattle.bib_csl.specs.Markup.marked_text
returns c =
    c.in_ok-push_last.ensures
    ∙ marked_end c.args.has_tags c.text.out _ (reverse c.text.names) c.text.name c.text.scanner c.in_default.ensures.0
    c.text.invariant.2
