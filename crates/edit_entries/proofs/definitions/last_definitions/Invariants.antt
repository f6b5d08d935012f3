use Rattle.std.proofs.Common.{map, take}
use Rattle.std.specs.BTreeMap.{get_by_text}
use Rattle.bib_syntax.specs.Views.{field_of}
use Rattle.edit_entries.specs.Definitions.{AreLast}
use Rattle.edit_entries.proofs.definitions.last_definitions.Given as goal

-- the map has for each name the index of its last definition among those so far
abbrev pub invariant-definitions : goal.invariant-definitions
invariant-definitions l = AreLast (map field_of (take l.index l.definitions)) (get_by_text l.last)
