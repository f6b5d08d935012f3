use Rattle.std.proofs.Common.{map}
use Rattle.bib_syntax.specs.Views.{field_of}
use Rattle.edit_strings.specs.Tables.{AreIndices, AreRows, rows_of}
use Rattle.edit_strings.proofs.written.rows.Given as goal

-- the rows are those of the definitions so far
abbrev pub invariant-definitions : goal.invariant-definitions
invariant-definitions l = record {
  indices : AreIndices l.indices (map field_of l.definitions) l.index;
  rows : AreRows (map field_of l.definitions) l.index (rows_of l.rows.items);
}
