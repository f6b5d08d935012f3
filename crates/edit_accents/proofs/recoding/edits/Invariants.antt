use Rattle.std.proofs.Common.{◌≡◌, ◌++◌, drop, map}
use Rattle.bib_syntax.specs.Views.{entry_reading_of}
use Rattle.edit_entries.specs.EditList.{edit_of}
use Rattle.edit_strings.specs.Tables.{AreAllFieldsCut, entry_edits}
use Rattle.edit_accents.specs.Recoded.{recoding}
use Rattle.edit_accents.proofs.recoding.edits.Given as goal

-- the edits so far and those of the entries still to visit are those of all entries
abbrev pub invariant-entries : goal.invariant-entries
invariant-entries l = record {
  added : map edit_of l.edits.items ++ entry_edits (recoding l.form l.text) l.text (map entry_reading_of (drop l.entry-index l.entries))
      ≡ entry_edits (recoding l.form l.text) l.text (map entry_reading_of l.entries);
  cut : AreAllFieldsCut l.text (map entry_reading_of (drop l.entry-index l.entries));
}
