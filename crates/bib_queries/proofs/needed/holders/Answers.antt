use Rattle.std.proofs.Common.{arith}
use Rattle.bib_queries.proofs.SearchFacts.{holders_next}
use Rattle.bib_queries.proofs.needed.holders.Goals as goal

pub links-preserved : goal.links-preserved
links-preserved c =
    holders_next c.args.links.now c.links.index c.index-links-index.result c.deref.result.now c.links.holders
    c.add_holders.new.holders (omega arith) c.index-links-index.is c.deref.ensures.value c.links.invariant
    c.in_ok-add_holders.ensures
