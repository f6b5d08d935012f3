use Rattle.std.specs.Prelude.{string_bytes}
use Rattle.std.specs.BTreeMap.{get_by_text}
use Rattle.bib_keys.specs.Taken.{AreTakenBelow}
use Rattle.bib_keys.proofs.keys.first_free.Given as goal

abbrev pub invariant-numbers : goal.invariant-numbers
invariant-numbers l = AreTakenBelow (get_by_text l.taken) (string_bytes l.text) l.number
