use Rattle.bib_syntax.specs.Views.{entry_reading_of}
use Rattle.bib_findings.proofs.SeenFacts.{alike_here, alike_past}
use Rattle.bib_findings.proofs.duplicates.first_alike.Goals as goal

pub returns-then-not-branch-clause-first : goal.returns-then-not-branch-clause-first
returns-then-not-branch-clause-first c =
    alike_here c.args.said.now c.args.indices.now c.indices.index-index (entry_reading_of c.args.one.now) c.index-said-index.result
    c.in_ok-are_told_apart.field-0 c.requires c.indices-test.true c.index-said-index.is c.indices.invariant
    c.in_ok-are_told_apart.ensures c.if-not-branch.true

pub indices-preserved : goal.indices-preserved
indices-preserved c =
    alike_past c.args.said.now c.args.indices.now c.indices.index-index (entry_reading_of c.args.one.now) c.index-said-index.result
    c.in_ok-are_told_apart.field-0 c.requires c.indices-test.true c.index-said-index.is c.indices.invariant
    c.in_ok-are_told_apart.ensures c.if-not-branch.false
