use Rattle.std.proofs.Common.{◌≡◌, [], replicate}
use Rattle.bib_collections.specs.Rows.{rows}
use Rattle.edit_sort.proofs.crossrefs.empty_rows.Given as goal

-- the rows so far are empty
abbrev pub invariant-rows : goal.invariant-rows
invariant-rows l = rows l.found.items ≡ replicate l._index []
