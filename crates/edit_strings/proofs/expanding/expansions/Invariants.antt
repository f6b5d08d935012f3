use Rattle.std.proofs.Common.{◌≡◌, ◌++◌, drop, map}
use Rattle.bib_syntax.specs.Views.{entry_reading_of, field_of}
use Rattle.edit_strings.specs.Tables.{AreExpansionsCut, AreIndices, each_edits, entry_expansion, rows_of}
use Rattle.edit_entries.specs.EditList.{edit_of}
use Rattle.edit_strings.proofs.OrderFacts.{IsAhead}
use Rattle.edit_strings.proofs.expanding.expansions.Given as goal

-- the edits so far and those of the entries still to visit are those of all entries, and the map has the first `next` definitions
abbrev pub invariant-entries : goal.invariant-entries
invariant-entries l = record {
  added : map edit_of l.edits.items
      ++ each_edits (entry_expansion l.names.text.now (map field_of l.names.definitions.now) (rows_of l.names.rows.items))
      l.names.text.now (map entry_reading_of (drop l.entry-index l.entries))
      ≡ each_edits (entry_expansion l.names.text.now (map field_of l.names.definitions.now) (rows_of l.names.rows.items))
      l.names.text.now (map entry_reading_of l.entries);
  cut : AreExpansionsCut l.names.text.now (map field_of l.names.definitions.now) (rows_of l.names.rows.items)
      (map entry_reading_of (drop l.entry-index l.entries));
  ahead : IsAhead (map field_of l.names.definitions.now) l.next (map entry_reading_of (drop l.entry-index l.entries));
  indices : AreIndices l.indices (map field_of l.names.definitions.now) l.next;
}
