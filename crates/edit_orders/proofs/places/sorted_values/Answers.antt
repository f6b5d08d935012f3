use Rattle.std.proofs.Common.{List, Option, Bool, rules, is_lt, Bor}
use Rattle.std.proofs.lemmas.Fn.{always_returns_same}
use Rattle.std.proofs.lemmas.List.Sorted.{IsPermutation-map, ranks_by}
use Rattle.bib_text.proofs.ListFacts.{sorted_map}
use Rattle.edit_orders.specs.Values.{values_cmp}
use Rattle.edit_orders.specs.declared.order.SortBy.{SortBy}
use Rattle.edit_orders.specs.declared.values.SortValue.{SortValue}
use Rattle.edit_orders.proofs.TotalFacts.{values_total}
use Rattle.edit_orders.proofs.places.sorted_values.Goals as goal

before : List SortBy → Bor (List (Option SortValue)) → Bor (List (Option SortValue)) → Bool
before order x y = is_lt (values_cmp order x.now y.now)

pub returns : goal.returns
unfolding before
returns c =
    let order = c.args.order.now in
    record {
      same = IsPermutation-map (λ s. s.now) _ _ c.in_ok-sort_by.ensures.permutation;
      sorted = sorted_map (λ s. s.now) (λ x y. is_lt (values_cmp order x y)) c.sort_by.new.self.items
          (c.in_ok-sort_by.ensures.sorted (before order) (ranks_by (values_total order) {X = Bor (List (Option SortValue))} (λ s. s.now))
          (always_returns_same _ _ _ (λ a r f called. search rules)));
    }
