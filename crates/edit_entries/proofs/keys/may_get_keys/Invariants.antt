use Rattle.std.proofs.Common.{◌≡◌, ◌<◌, ℕ, List, Some, map}
use Rattle.std.specs.Prelude.{slice_get}
use Rattle.bib_syntax.specs.Reading.{EntryReading}
use Rattle.bib_syntax.specs.Views.{entry_reading_of}
use Rattle.edit_entries.specs.NewKeys.{key_for}
use Rattle.edit_entries.specs.References.{MayGetKey}
use Rattle.edit_entries.proofs.keys.may_get_keys.Given as goal

-- each entry so far that gets a new key may get it
abbrev pub invariant-entries : goal.invariant-entries
invariant-entries l =
    (k : ℕ) (e : EntryReading) → k < l.index → slice_get (map entry_reading_of l.entries) k ≡ Some e
    → (new : List ℕ) → key_for l.keys k ≡ Some new → MayGetKey e new
