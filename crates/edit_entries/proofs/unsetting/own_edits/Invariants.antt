use Rattle.std.proofs.Common.{◌≡◌, drop, map}
use Rattle.bib_syntax.specs.Views.{entry_reading_of, field_of}
use Rattle.edit_entries.specs.EditList.{edit_of}
use Rattle.edit_entries.specs.Unset.{own_edits}
use Rattle.edit_entries.proofs.OwnListFacts.{with_edits}
use Rattle.edit_entries.proofs.unsetting.own_edits.Given as goal

abbrev pub invariant-fields : goal.invariant-fields
invariant-fields l =
    own_edits l.text l.name (entry_reading_of l.entry) 0 (map field_of l.fields)
    ≡ with_edits (map edit_of l.edits.items)
    (own_edits l.text l.name (entry_reading_of l.entry) l.index (map field_of (drop l.index l.fields)))
