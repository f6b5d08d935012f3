use Rattle.std.proofs.Common.{◌≡◌, ◌<◌, ℕ, map, Some}
use Rattle.std.specs.Prelude.{slice_get}
use Rattle.bib_syntax.specs.Reading.{FieldReading}
use Rattle.bib_syntax.specs.Views.{field_of}
use Rattle.edit_entries.specs.Definitions.{AgreesWithLast}
use Rattle.edit_entries.proofs.definitions.agree_with_last.Given as goal

-- the definitions so far agree with the last of the others
abbrev pub invariant-definitions : goal.invariant-definitions
invariant-definitions l =
    (j : ℕ) (f : FieldReading) → j < l.definition-index → slice_get (map field_of l.definitions) j ≡ Some f
    → AgreesWithLast (map field_of l.others) f
