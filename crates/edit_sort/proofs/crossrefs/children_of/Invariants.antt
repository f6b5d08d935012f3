use Rattle.std.proofs.Common.{◌≡◌, length, map, take}
use Rattle.bib_collections.specs.Rows.{rows}
use Rattle.bib_syntax.specs.Views.{entry_reading_of}
use Rattle.edit_sort.specs.Ranks.{AreChildren}
use Rattle.edit_sort.proofs.crossrefs.children_of.Given as goal

-- the rows have the children of the entries so far
abbrev pub invariant-entries : goal.invariant-entries
invariant-entries l = record {
  same_length : length l.children.items ≡ length l.entries;
  children : AreChildren l.names (map entry_reading_of (take l.index l.entries)) (rows l.children.items);
}
