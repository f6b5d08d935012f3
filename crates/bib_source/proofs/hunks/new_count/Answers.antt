use Rattle.std.proofs.Common.{◌+◌, ap₂, sym, ◌∙◌, arith}
use Rattle.bib_source.proofs.ComparisonFacts.{new_more}
use Rattle.bib_source.proofs.hunks.new_count.Goals as goal

pub lines-preserved : goal.lines-preserved
lines-preserved c = record {
  is =
      ap₂ (λ n m. n + m) c.lines.invariant.is c.in_new-count.ensures.is
      ∙ sym (new_more c.args.lines.now c.lines.line-index c.lines-test.true);
  within = omega (arith, c.lines.invariant.within, c.in_new-count.ensures.within);
}
