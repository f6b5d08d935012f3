use Rattle.std.proofs.Common.{◌≡◌, ◌++◌, drop, map}
use Rattle.std.specs.String.{string_bytes}
use Rattle.std.specs.List.{AllByRecursion}
use Rattle.edit_sort.specs.Cuts.{IsEntryOfItemCut}
use Rattle.edit_sort.specs.Ranks.{item_reading_of}
use Rattle.edit_sort.specs.Steps.{items_laid_out}
use Rattle.edit_sort.proofs.sorting.laid_out.Given as goal

-- the text so far and that of the items still to write make the whole text
abbrev pub invariant-order : goal.invariant-order
invariant-order l = record {
  written : string_bytes l.new
      ++ items_laid_out l.text (map (λ s. s.now) (drop l.index l.spaces))
      (map item_reading_of (drop l.index l.order)) (drop l.end l.text)
      ≡ items_laid_out l.text (map (λ s. s.now) l.spaces) (map item_reading_of l.order) (drop l.end l.text);
  cut : AllByRecursion (IsEntryOfItemCut l.text) (map item_reading_of (drop l.index l.order));
}
