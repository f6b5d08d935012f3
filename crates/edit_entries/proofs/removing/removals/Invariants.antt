use Rattle.std.proofs.Common.{◌≡◌, map, take}
use Rattle.bib_syntax.specs.Views.{entry_reading_of, field_of}
use Rattle.edit_entries.specs.EditList.{edit_of}
use Rattle.edit_entries.specs.Unset.{removals}
use Rattle.edit_entries.proofs.removing.removals.Given as goal

abbrev pub invariant-fields : goal.invariant-fields
invariant-fields l =
    map edit_of l.edits.items
    ≡ removals l.name (entry_reading_of l.entry) 0 (map field_of (take l.index l.entry.v.fields.items))
