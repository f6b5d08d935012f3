use Rattle.std.proofs.Common.{Some}
use Rattle.std.specs.String.{string_bytes}
use Rattle.std.proofs.lemmas.Map.Text.{btree_map_updates_text}
use Rattle.bib_keys.proofs.keys.set.Goals as goal

pub returns : goal.returns
returns c = λ q.
    btree_map_updates_text (string_bytes c.args.name) c.args.taken.now c.insert.new.self (Some c.args.number)
    c.in_ok-insert.ensures.updates q
