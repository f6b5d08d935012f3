use Rattle.std.proofs.Common.{map, take}
use Rattle.bib_syntax.specs.Views.{field_of}
use Rattle.edit_strings.specs.Collecting.{AreNameCounts}
use Rattle.edit_strings.proofs.known.name_counts.Given as goal

abbrev pub invariant-definitions : goal.invariant-definitions
invariant-definitions l = AreNameCounts l.counts (map field_of (take l.definition-index l.definitions))
