use Rattle.std.proofs.Common.{◌≡◌, ◌++◌, drop, map}
use Rattle.bib_syntax.specs.Views.{entry_reading_of}
use Rattle.edit_convert.specs.Notes.{entry_notes, indexed}
use Rattle.edit_convert.proofs.notes.entry_notes.Given as goal

abbrev pub invariant-entries : goal.invariant-entries
invariant-entries l =
    l.notes.items
    ++ indexed (entry_notes l.dialect l.defines l.text) l.index (map entry_reading_of (drop l.index l.entries))
    ≡ indexed (entry_notes l.dialect l.defines l.text) 0 (map entry_reading_of l.entries)
