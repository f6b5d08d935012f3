use Rattle.std.proofs.Common.{◌≡◌, drop, length, map}
use Rattle.bib_queries.specs.Sets.{is_in_set}
use Rattle.bib_syntax.specs.Views.{entry_reading_of}
use Rattle.edit_entries.specs.FieldEdits.{first_start}
use Rattle.edit_entries.proofs.field_edits.first_start.Given as goal

abbrev pub invariant-entries : goal.invariant-entries
invariant-entries l =
    first_start (is_in_set l.keys) (length l.text) (map entry_reading_of l.entries)
    ≡ first_start (is_in_set l.keys) (length l.text) (map entry_reading_of (drop l.entry-index l.entries))
