use Rattle.std.proofs.Common.{◌≡◌, ◌++◌, map, take}
use Rattle.std.specs.List.{AllByRecursion}
use Rattle.bib_syntax.specs.Views.{field_of}
use Rattle.edit_entries.specs.NewKeys.{name_for}
use Rattle.edit_entries.specs.References.{CanBeMade, change_edit, reference_changes}
use Rattle.edit_entries.specs.EditList.{edit_of}
use Rattle.edit_entries.specs.Stretches.{EndsInWhite}
use Rattle.edit_entries.proofs.renaming.push_reference_edits.Given as goal

abbrev pub invariant-fields : goal.invariant-fields
invariant-fields l =
    (map edit_of l.edits.items
    ≡ map edit_of l.initial.edits.items
    ++ map (change_edit l.text) (reference_changes (name_for l.names) (map field_of (take l.field-index l.fields))))
    × AllByRecursion CanBeMade (reference_changes (name_for l.names) (map field_of (take l.field-index l.fields)))
    × AllByRecursion (EndsInWhite l.text) (reference_changes (name_for l.names) (map field_of (take l.field-index l.fields)))
