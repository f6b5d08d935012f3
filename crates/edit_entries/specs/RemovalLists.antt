-- Machinery: words of private contracts.
-- Lists of edits that remove entries.
use Rattle.std.specs.Prelude.{◌≡◌, ℕ, Bool, if◌then◌else◌, List, [], ◌∷◌, ◌++◌}
use Rattle.bib_syntax.specs.Reading.{EntryReading}
use Rattle.edit_entries.specs.Edits.{Edit}
use Rattle.edit_entries.specs.Selected.{AreRemovals}

-- `new` is `old`, followed by the edits that remove these entries
pub record AreRemovalsAdded (text : List ℕ) (es : List EntryReading) (old new : List Edit) : Type 0 where
  pub edits : List Edit
  pub removals : AreRemovals text es edits
  pub are : new ≡ old ++ edits

-- a list of this entry if a test is passed, or else an empty one
abbrev pub entry_if : Bool → EntryReading → List EntryReading
entry_if passes e = if passes then e ∷ [] else []
