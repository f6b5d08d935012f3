use Rattle.std.proofs.Common.{refl, rules}
use Rattle.std.proofs.lemmas.Map.Text.{btree_map_updates_str}
use Rattle.bib_abbreviations.proofs.abbreviations.Memo.open.Goals as goal

pub returns-clause-opened : goal.returns-clause-opened
returns-clause-opened c = λ definitions is fresh. record {
  named = refl;
  is = rw c.as_slice.ensures.value is;
  start = search rules;
  fresh = fresh;
  values = refl;
  names = λ other. btree_map_updates_str c.args.name.now c.args.self.now.names c.insert.new.self _ c.in_ok-insert.ensures.updates other;
}
