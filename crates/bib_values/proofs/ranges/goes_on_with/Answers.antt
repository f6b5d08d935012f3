use Rattle.std.proofs.Common.{◌∙◌, None, arith}
use Rattle.bib_values.proofs.RangeFacts.{lone, parted}
use Rattle.bib_values.proofs.ranges.goes_on_with.Goals as goal

pub returns-then-text-eq0 : goal.returns-then-text-eq0
returns-then-text-eq0 c = lone c.args.start c.args.text.now c.if-text-eq0.true

pub returns-in_default : goal.returns-in_default
returns-in_default c = parted c.args.start c.args.text.now None c.utf8.text (omega (arith, c.if-text-eq0.false)) c.in_default.ensures

pub returns : goal.returns
returns c = c.up_to.ensures ∙ parted c.args.start c.args.text.now _ c.utf8.text (omega (arith, c.if-text-eq0.false)) c.in-Some.ensures
