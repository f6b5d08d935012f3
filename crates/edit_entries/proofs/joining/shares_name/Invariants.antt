use Rattle.std.proofs.Common.{◌≡◌, ◌<◌, ◌++◌, ℕ, false, map, take, Some}
use Rattle.std.specs.Prelude.{slice_get}
use Rattle.std.specs.BTreeSet.{contains_text}
use Rattle.bib_syntax.specs.Reading.{EntryReading}
use Rattle.bib_syntax.specs.Views.{entry_reading_of}
use Rattle.edit_entries.specs.NameSets.{AreNamesOf}
use Rattle.edit_entries.specs.NewNames.{shares_name}
use Rattle.edit_entries.proofs.joining.shares_name.Given as goal

-- the set has the names of the entries and of the others so far, none of which shares one with those before it
abbrev pub invariant-others : goal.invariant-others
invariant-others l =
    AreNamesOf (map entry_reading_of l.entries ++ map entry_reading_of (take l.entry-index l.others)) (contains_text l.set)
    × ((k : ℕ) (e : EntryReading) → k < l.entry-index → slice_get (map entry_reading_of l.others) k ≡ Some e
    → shares_name (map entry_reading_of l.entries ++ take k (map entry_reading_of l.others)) e ≡ false)
