use Rattle.std.proofs.Common.{map, take}
use Rattle.bib_syntax.specs.Views.{entry_reading_of}
use Rattle.edit_sort.proofs.RankFacts.{AreFirstKeys}
use Rattle.edit_sort.proofs.crossrefs.key_indices.Given as goal

-- the keys of the entries so far point to the index of the first entry with that key
abbrev pub invariant-entries : goal.invariant-entries
invariant-entries l = AreFirstKeys (map entry_reading_of l.entries) l.names (take l.index (map entry_reading_of l.entries))
