use Rattle.std.proofs.Common.{◌≡◌, filter, map, take}
use Rattle.bib_syntax.specs.Views.{field_of}
use Rattle.edit_entry_merge.specs.Choices.{takes_other, version_at}
use Rattle.edit_entry_merge.specs.Picks.{is_added}
use Rattle.edit_entry_merge.specs.Working.{added_fields, versions_reading}
use Rattle.edit_entry_merge.proofs.versions.Versions.additions.Given as goal

abbrev pub invariant-fields : goal.invariant-fields
invariant-fields l =
    added_fields l.added.items
    ≡ filter (is_added (takes_other (versions_reading l.self) l.main l.prefer) (version_at (versions_reading l.self) l.main))
    (map field_of (take l.field-index l.fields))
