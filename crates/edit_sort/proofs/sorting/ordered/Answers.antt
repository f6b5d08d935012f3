use Rattle.std.proofs.Common.{rules, Bool}
use Rattle.std.specs.Ordering.{is_lt}
use Rattle.std.proofs.lemmas.Fn.{always_returns_same}
use Rattle.std.proofs.lemmas.List.Sorted.{IsPermutation-map, ranks_by}
use Rattle.bib_text.proofs.ListFacts.{sorted_map}
use Rattle.edit_sort.specs.Ranks.{item_reading_of}
use Rattle.edit_sort.specs.Sorted.{item_cmp}
use Rattle.edit_sort.specs.declared.items.Item.{Item}
use Rattle.edit_sort.proofs.OrderFacts.{item_total}
use Rattle.edit_sort.proofs.sorting.ordered.Goals as goal

before : Item → Item → Bool
before x y = is_lt (item_cmp (item_reading_of x) (item_reading_of y))

pub returns : goal.returns
unfolding before
returns c = record {
  permutation = IsPermutation-map item_reading_of _ _ c.in_ok-sort_by.ensures.permutation;
  sorted = sorted_map item_reading_of (λ x y. is_lt (item_cmp x y)) c.sort_by.new.self.items
      (c.in_ok-sort_by.ensures.sorted before (ranks_by item_total {X = Item} item_reading_of)
      (always_returns_same _ _ _ (λ a r f called. search rules)));
}
