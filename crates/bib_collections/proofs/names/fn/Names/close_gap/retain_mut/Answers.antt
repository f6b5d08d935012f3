use Rattle.bib_collections.proofs.NamesFacts.{moved_lower}
use Rattle.bib_collections.proofs.names.fn.Names.close_gap.retain_mut.Goals as goal

pub returns-then-pair-index-2 : goal.returns-then-pair-index-2
returns-then-pair-index-2 c = moved_lower c.captures.index c.args.pair.now c.if-pair-index.false c.if-pair-index-2.true
