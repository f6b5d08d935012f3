use Rattle.std.proofs.Common.{◌∙◌, sym}
use Rattle.std.proofs.lemmas.Map.Text.{btree_map_updates_str}
use Rattle.edit_entries.proofs.IndexFacts.{gets_index, has_index}
use Rattle.edit_entries.proofs.new_keys.give_index.Goals as goal

pub returns-then-contains_key : goal.returns-then-contains_key
returns-then-contains_key c = λ other.
    has_index c.args.indices.now c.args.name.now other c.args.index (sym c.contains_key.ensures ∙ c.if-contains_key.true)

pub returns : goal.returns
returns c = λ other.
    gets_index c.args.indices.now c.insert.new.self c.args.name.now other c.args.index
    (sym c.contains_key.ensures ∙ c.if-contains_key.false)
    (btree_map_updates_str c.args.name.now c.args.indices.now c.insert.new.self _ c.in_ok-insert.ensures.updates other)
