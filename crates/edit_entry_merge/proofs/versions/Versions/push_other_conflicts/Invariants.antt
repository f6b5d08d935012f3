use Rattle.std.proofs.Common.{◌≡◌, ◌++◌, map, take}
use Rattle.bib_syntax.specs.Views.{field_of}
use Rattle.edit_entry_merge.specs.Working.{other_conflicts_of, versions_reading}
use Rattle.edit_entry_merge.proofs.versions.Versions.push_other_conflicts.Given as goal

abbrev pub invariant-fields : goal.invariant-fields
invariant-fields l =
    l.names.items
    ≡ l.fn.names.items ++ other_conflicts_of (versions_reading l.self) (map field_of (take l.field-index l.fields))
