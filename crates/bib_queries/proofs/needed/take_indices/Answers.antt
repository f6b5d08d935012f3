use Rattle.std.proofs.lemmas.Map.Text.{btree_map_updates_str}
use Rattle.bib_queries.proofs.SearchFacts.{taken_left}
use Rattle.bib_queries.proofs.needed.take_indices.Goals as goal

pub returns-in-Some-clause-left : goal.returns-in-Some-clause-left
returns-in-Some-clause-left c = λ other.
    taken_left c.args.holders.now c.remove.new.self c.args.name.now other
    (btree_map_updates_str c.args.name.now c.args.holders.now c.remove.new.self _ c.remove.ensures.updates other)
