use Rattle.std.proofs.Common.{ap, ◌∙◌}
use Rattle.std.proofs.lemmas.List.Sorted.{All-permutation}
use Rattle.bib_syntax.specs.Closings.{IsClosing}
use Rattle.bib_syntax.proofs.ClosingFacts.{no_braces}
use Rattle.bib_syntax.proofs.raw.closings.closings.Goals as goal

pub returns : goal.returns
returns c =
    let braces =
    c.in_ok-pass_all.ensures.braces c.args.text.now
    (rw (c.new.ensures.items, c.new-2.ensures.items)
    (no_braces c.args.text.now c.jump.new.self (ap (λ p. p.text) c.jump.ensures ∙ ap (λ p. p.text) c.new-s.ensures))) in
    All-permutation (IsClosing c.args.text.now) _ _ c.sort_unstable_by_key.ensures.permutation
    (c.in_ok-end.ensures c.args.text.now _ c.in_ok-pass_all.ensures.end braces)
