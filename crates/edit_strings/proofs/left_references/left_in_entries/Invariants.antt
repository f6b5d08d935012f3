use Rattle.std.proofs.Common.{◌≡◌, ◌++◌, drop, map}
use Rattle.std.specs.List.{flat_map}
use Rattle.bib_syntax.specs.Views.{entry_reading_of, field_of}
use Rattle.edit_entries.specs.NewKeys.{name_for}
use Rattle.edit_strings.specs.Left.{left_in}
use Rattle.edit_strings.specs.Tables.{AreIndices, rows_of, written_by}
use Rattle.edit_strings.specs.Views.{lent_left}
use Rattle.edit_strings.proofs.OrderFacts.{IsAhead}
use Rattle.edit_strings.proofs.left_references.left_in_entries.Given as goal

-- the references so far and those of the entries still to visit are those of all entries, and the map has the first `next` definitions
abbrev pub invariant-entries : goal.invariant-entries
invariant-entries l = record {
  added : lent_left l.left.items
      ++ flat_map (left_in (name_for l.known.names) (written_by (map field_of l.definitions) (rows_of l.known.rows.items)))
      (map entry_reading_of (drop l.entry-index l.entries))
      ≡ flat_map (left_in (name_for l.known.names) (written_by (map field_of l.definitions) (rows_of l.known.rows.items)))
      (map entry_reading_of l.entries);
  ahead : IsAhead (map field_of l.definitions) l.next (map entry_reading_of (drop l.entry-index l.entries));
  indices : AreIndices l.indices (map field_of l.definitions) l.next;
}
