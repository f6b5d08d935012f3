use Rattle.std.proofs.Common.{map, take}
use Rattle.bib_syntax.specs.Views.{entry_reading_of}
use Rattle.bibkit_core.specs.Totals.{AddsEntries}
use Rattle.bibkit_core.proofs.counting.Counting.add_entries.Given as goal

abbrev pub invariant-entries : goal.invariant-entries
invariant-entries l = AddsEntries (map entry_reading_of (take l.entry-index l.entries)) l.initial.self l.self
