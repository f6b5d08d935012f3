use Rattle.std.proofs.Common.{◌≡◌, [], replicate}
use Rattle.bib_collections.specs.Rows.{rows}
use Rattle.bib_findings.proofs.lacking.empty_lists.Given as goal

-- the lists so far are empty
abbrev pub invariant-lists : goal.invariant-lists
invariant-lists l = rows l.lists.items ≡ replicate l._index []
