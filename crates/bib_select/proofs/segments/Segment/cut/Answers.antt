use Rattle.std.proofs.Common.{◌∙◌, sym}
use Rattle.bib_select.proofs.SegmentFacts.{cut_here, cut_nowhere, uncut_more}
use Rattle.bib_select.proofs.segments.Segment.cut.Goals as goal

pub returns-then-is_keyword-clause-cut : goal.returns-then-is_keyword-clause-cut
returns-then-is_keyword-clause-cut c =
    cut_here c.args.joint.now c.args.self.end c.args.self.tokens.now c.tokens.index _ c.tokens.invariant c.tokens-test.true
    (sym c.is_keyword.ensures ∙ c.if-is_keyword.true)

pub tokens-preserved : goal.tokens-preserved
tokens-preserved c =
    uncut_more c.args.joint.now c.args.self.end c.args.self.tokens.now c.tokens.index _ c.tokens.invariant c.tokens-test.true
    (sym c.is_keyword.ensures ∙ c.if-is_keyword.false)

pub returns-clause-cut : goal.returns-clause-cut
returns-clause-cut c =
    cut_nowhere c.args.joint.now c.args.self.end c.args.self.tokens.now c.tokens.index c.tokens.invariant c.tokens-test.false
