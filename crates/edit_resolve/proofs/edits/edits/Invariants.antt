use Rattle.std.proofs.Common.{◌≡◌, ◌++◌, map, drop}
use Rattle.bib_syntax.specs.Views.{entry_reading_of}
use Rattle.edit_entries.specs.Changes.{edits_of_entries}
use Rattle.edit_entries.specs.EditList.{edit_of}
use Rattle.edit_resolve.specs.Resolved.{resolution}
use Rattle.edit_resolve.specs.Working.{AreFieldsCut, readings}
use Rattle.edit_resolve.proofs.edits.edits.Given as goal

abbrev pub invariant-entries : goal.invariant-entries
invariant-entries l = record {
  added : map edit_of l.edits.items
      ++ edits_of_entries (resolution l.text (readings l.file)) l.text (map entry_reading_of (drop l.index l.file.entries.now))
      ≡ edits_of_entries (resolution l.text (readings l.file)) l.text (readings l.file);
  cut : AreFieldsCut l.text (map entry_reading_of (drop l.index l.file.entries.now));
}
