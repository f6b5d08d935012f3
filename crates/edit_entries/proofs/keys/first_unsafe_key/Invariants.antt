use Rattle.std.proofs.Common.{◌≡◌, ◌<◌, ℕ, map, Some}
use Rattle.std.specs.Prelude.{slice_get}
use Rattle.bib_syntax.specs.Reading.{EntryReading}
use Rattle.bib_syntax.specs.Views.{entry_reading_of}
use Rattle.edit_entries.specs.NewNames.{CanBeNewKey}
use Rattle.edit_entries.proofs.keys.first_unsafe_key.Given as goal

-- the keys so far can be new ones
abbrev pub invariant-entries : goal.invariant-entries
invariant-entries l =
    (j : ℕ) (e : EntryReading) → j < l.entry-index → slice_get (map entry_reading_of l.entries) j ≡ Some e → CanBeNewKey e.key.text
