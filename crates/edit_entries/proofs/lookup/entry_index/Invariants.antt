use Rattle.std.proofs.Common.{◌≡◌, map, take, None}
use Rattle.bib_syntax.specs.Views.{entry_reading_of}
use Rattle.edit_entries.specs.Documents.{first_position, is_keyed}
use Rattle.edit_entries.proofs.lookup.entry_index.Given as goal

abbrev pub invariant-entries : goal.invariant-entries
invariant-entries l = first_position (is_keyed l.key) (map entry_reading_of (take l.index l.entries)) ≡ None
