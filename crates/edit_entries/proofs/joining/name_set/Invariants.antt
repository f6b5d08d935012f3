use Rattle.std.proofs.Common.{map, take}
use Rattle.std.specs.BTreeSet.{contains_text}
use Rattle.bib_syntax.specs.Views.{entry_reading_of}
use Rattle.edit_entries.specs.NameSets.{AreNamesOf}
use Rattle.edit_entries.proofs.joining.name_set.Given as goal

-- the set has the names of the entries so far
abbrev pub invariant-entries : goal.invariant-entries
invariant-entries l = AreNamesOf (map entry_reading_of (take l.entry-index l.entries)) (contains_text l.set)
