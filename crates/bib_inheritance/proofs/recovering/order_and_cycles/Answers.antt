use Rattle.std.proofs.Common.{◌∙◌}
use Rattle.bib_collections.specs.Rows.{rows}
use Rattle.bib_collections.proofs.Rows.{length-rows}
use Rattle.bib_inheritance.proofs.CutFacts.{cut_nothing}
use Rattle.bib_inheritance.proofs.recovering.order_and_cycles.Goals as goal

pub order-requires-clause-in_range : goal.order-requires-clause-in_range
order-requires-clause-in_range c = c.in_ok-errors-in-Err.ensures.cut.in_range c.requires.in_range

pub returns-in-Ok-clause-cut : goal.returns-in-Ok-clause-cut
returns-in-Ok-clause-cut c =
    rw c.new.ensures.items
    (cut_nothing c.args.spans.now c.args.entries.now (rows c.args.refs.now) c.in-Ok.ensures.no_cycle
    (length-rows c.args.refs.now ∙ c.requires.rows))
