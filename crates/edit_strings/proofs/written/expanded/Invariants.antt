use Rattle.std.proofs.Common.{◌≡◌, ◌++◌, length}
use Rattle.std.specs.List.{AllByRecursion}
use Rattle.edit_strings.specs.Tables.{IsIndexBelow, all_visits, expanded, indexed_back, rows_of}
use Rattle.edit_strings.specs.Views.{lent_pieces}
use Rattle.edit_strings.proofs.written.expanded.Given as goal

-- the pieces so far and the expansion of the stack make the whole expansion
abbrev pub invariant-stack : goal.invariant-stack
invariant-stack l = record {
  written : lent_pieces l.found.items ++ expanded (rows_of l.rows) (indexed_back l.stack.items)
      ≡ expanded (rows_of l.rows) (indexed_back l.initial.stack.items);
  below : AllByRecursion (IsIndexBelow (length l.rows)) (indexed_back l.stack.items);
}

abbrev pub decreases-stack : goal.decreases-stack
decreases-stack l = length (all_visits (rows_of l.rows) (indexed_back l.stack.items))
