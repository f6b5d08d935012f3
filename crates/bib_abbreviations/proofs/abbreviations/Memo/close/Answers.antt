use Rattle.std.proofs.lemmas.Grind.{common_steps}
use Rattle.std.proofs.Common.{◌≡◌, length, rules, arith}
use Rattle.std.proofs.lemmas.Map.Text.{btree_map_updates_str}
use Rattle.bib_abbreviations.proofs.abbreviations.Memo.close.Goals as goal

pub returns-clause-names : goal.returns-clause-names
returns-clause-names c = λ other.
    let end : c.len.result ≡ length c.args.self.now.values.items = search rules in
    rw (← end)
    (btree_map_updates_str c.args.frame.now.name.now c.args.self.now.names c.insert.new.self _
    c.in_ok-insert.ensures.updates other)

pub insert-requires-text-key : goal.insert-requires-text-key
insert-requires-text-key c = grind (arith, common_steps)
