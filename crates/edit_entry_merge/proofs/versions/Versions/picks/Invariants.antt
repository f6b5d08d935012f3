use Rattle.std.proofs.Common.{◌≡◌, map, take}
use Rattle.bib_syntax.specs.Views.{field_of}
use Rattle.edit_entry_merge.specs.Choices.{other_side, takes_other, version_at}
use Rattle.edit_entry_merge.specs.Picks.{pick}
use Rattle.edit_entry_merge.specs.Working.{pick_of, versions_reading}
use Rattle.edit_entry_merge.proofs.versions.Versions.picks.Given as goal

abbrev pub invariant-fields : goal.invariant-fields
invariant-fields l =
    map pick_of l.picks.items
    ≡ map
    (pick (takes_other (versions_reading l.self) l.main l.prefer) (version_at (versions_reading l.self) (other_side l.main)))
    (map field_of (take l.field-index l.fields))
