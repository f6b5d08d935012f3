use Rattle.std.proofs.Common.{◌≡◌, ◌≤◌, ◌++◌, drop, map}
use Rattle.bib_syntax.specs.Views.{entry_reading_of}
use Rattle.edit_sort.specs.Cuts.{AreItemsCut}
use Rattle.edit_sort.specs.Ranks.{item_reading_of}
use Rattle.edit_sort.specs.Steps.{items_from, place_after, spaces_from}
use Rattle.edit_sort.proofs.items.gather.Given as goal

-- the spaces and items so far and those of the entries still to visit are those of all entries
abbrev pub invariant-entries : goal.invariant-entries
invariant-entries l = record {
  spaces : map (λ s. s.now) l.spaces.items
      ++ spaces_from l.text l.index l.at (map entry_reading_of (drop l.index l.entries))
      ≡ spaces_from l.text 0 0 (map entry_reading_of l.entries);
  items : map item_reading_of l.items.items
      ++ items_from (map entry_reading_of l.entries) l.text l.places l.index l.at l.run
      (map entry_reading_of (drop l.index l.entries))
      ≡ items_from (map entry_reading_of l.entries) l.text l.places 0 0 0 (map entry_reading_of l.entries);
  end : place_after l.at (map entry_reading_of (drop l.index l.entries)) ≡ place_after 0 (map entry_reading_of l.entries);
  cut : AreItemsCut l.text l.index l.at (map entry_reading_of (drop l.index l.entries));
  few : l.run ≤ l.index;
}
