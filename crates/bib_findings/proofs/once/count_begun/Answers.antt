use Rattle.std.proofs.Common.{arith, ◌<◌, ◌≤◌, sym, subst}
use Rattle.bib_findings.proofs.FileFacts.{begins_by, begins_later, begun_ends, begun_more}
use Rattle.bib_findings.proofs.once.count_begun.Goals as goal

pub returns-then-said-origins-clause-count : goal.returns-then-said-origins-clause-count
returns-then-said-origins-clause-count c =
    let one = c.index-said-origins.result in
    omega (
      arith,
      c.origins.invariant,
      begun_ends c.args.said.now c.args.origins.now c.args.end c.origins.count one c.requires c.origins-test.true c.index-said-origins.is
          (begins_later one.span.start c.args.end
          (subst (λ e. c.args.end < e.span.start) (sym c.index-said-origins.is) c.if-said-origins.true)),
    )

pub origins-preserved : goal.origins-preserved
origins-preserved c =
    let one = c.index-said-origins.result in
    omega (
      arith,
      c.origins.invariant,
      begun_more c.args.said.now c.args.origins.now c.args.end c.origins.count one c.requires c.origins-test.true c.index-said-origins.is
          (begins_by one.span.start c.args.end
          (subst (λ e. e.span.start ≤ c.args.end) (sym c.index-said-origins.is) c.if-said-origins.false)),
    )
