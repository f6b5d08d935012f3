use Rattle.std.proofs.Common.{◌≡◌, map, take}
use Rattle.bib_syntax.specs.Views.{entry_reading_of}
use Rattle.edit_sort.specs.Ranks.{owner}
use Rattle.edit_sort.proofs.crossrefs.owners_of.Given as goal

-- `owners` has the owners of the entries so far
abbrev pub invariant-entries : goal.invariant-entries
invariant-entries l = l.owners.items ≡ map (owner l.names) (map entry_reading_of (take l.entry-index l.entries))
