use Rattle.std.proofs.Common.{◌≡◌, ◌++◌, drop, map}
use Rattle.std.specs.List.{AllByRecursion}
use Rattle.bib_syntax.specs.Views.{entry_reading_of}
use Rattle.edit_entries.specs.Changes.{edits_of_entries}
use Rattle.edit_convert.specs.Conversions.{conversion}
use Rattle.edit_convert.specs.Tables.{AreFieldsInText}
use Rattle.edit_entries.specs.EditList.{edit_of}
use Rattle.edit_convert.proofs.converting.edits.Given as goal

abbrev pub invariant-entries : goal.invariant-entries
invariant-entries l = record {
  added : map edit_of l.edits.items
      ++ edits_of_entries (conversion l.dialect l.defines l.text) l.text (map entry_reading_of (drop l.entry-index l.entries))
      ≡ edits_of_entries (conversion l.dialect l.defines l.text) l.text (map entry_reading_of l.entries);
  placed : AllByRecursion (λ e. AreFieldsInText l.text e.fields) (map entry_reading_of (drop l.entry-index l.entries));
}
