use Rattle.std.proofs.Common.{◌-◌, length, ◌∙◌, arith}
use Rattle.bib_source.proofs.HunkFacts.{hidden_context}
use Rattle.bib_source.proofs.hunks.run_end.Goals as goal

pub returns-then-is_visible-are_visible-clause-hidden : goal.returns-then-is_visible-are_visible-clause-hidden
returns-then-is_visible-are_visible-clause-hidden c = λ hidden.
    hidden_context c.args.lines.now c.args.start (c.lines.index - c.args.start) (omega arith)
    (λ i low high. c.lines.invariant i low (omega (arith, low, high)) ∙ hidden)

pub returns-clause-hidden : goal.returns-clause-hidden
returns-clause-hidden c = λ hidden.
    hidden_context c.args.lines.now c.args.start (length c.args.lines.now - c.args.start) (omega arith)
    (λ i low high. c.lines.invariant i low (omega (arith, low, high)) ∙ hidden)
