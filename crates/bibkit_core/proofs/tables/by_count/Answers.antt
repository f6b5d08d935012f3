use Rattle.std.proofs.Common.{rules}
use Rattle.std.proofs.lemmas.List.Sorted.{answers_always}
use Rattle.bibkit_core.specs.Tables.{count_below_greatest}
use Rattle.bibkit_core.proofs.tables.by_count.Goals as goal

pub returns : goal.returns
returns c = λ names are. record {
  by_name = c.args.rows.items;
  are = are;
  same = c.in_ok-sort_by_key.ensures.permutation;
  sorted = c.in_ok-sort_by_key.ensures.sorted count_below_greatest (answers_always _ _ _ (λ f a r g h. search rules));
  stable = c.in_ok-sort_by_key.ensures.stable count_below_greatest (answers_always _ _ _ (λ f a r g h. search rules));
}
