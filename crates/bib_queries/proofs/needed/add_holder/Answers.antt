use Rattle.std.proofs.Common.{◌++◌, ◌∷◌, [], ap, ◌∙◌}
use Rattle.std.proofs.lemmas.Map.Text.{btree_map_updates_str}
use Rattle.bib_queries.proofs.SearchFacts.{holder_added}
use Rattle.bib_queries.proofs.needed.add_holder.Goals as goal

pub returns : goal.returns
returns c = λ other.
    holder_added c.args.holders.now c.take_indices-indices.new.holders c.insert.new.self c.args.name.now c.args.index
    c.push.new.self (c.in_ok-push.ensures.items ∙ ap (λ l. l ++ c.args.index ∷ []) c.take_indices-indices.ensures.items)
    c.take_indices-indices.ensures.left other
    (btree_map_updates_str c.args.name.now c.take_indices-indices.new.holders c.insert.new.self _
    c.in_ok-insert.ensures.updates other)
