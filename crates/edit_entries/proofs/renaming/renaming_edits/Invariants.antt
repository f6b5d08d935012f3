use Rattle.std.proofs.Common.{◌≡◌, map, take}
use Rattle.std.specs.List.{AllByRecursion}
use Rattle.bib_syntax.specs.Views.{entry_reading_of}
use Rattle.edit_entries.specs.NewKeys.{key_for, name_for}
use Rattle.edit_entries.specs.References.{CanBeMade, change_edit, renaming}
use Rattle.edit_entries.specs.EditList.{edit_of}
use Rattle.edit_entries.specs.Stretches.{EndsInWhite}
use Rattle.edit_entries.proofs.renaming.renaming_edits.Given as goal

abbrev pub invariant-entries : goal.invariant-entries
invariant-entries l =
    (map edit_of l.edits.items
    ≡ map (change_edit l.text) (renaming (name_for l.names) (key_for l.names.keys) 0 (map entry_reading_of (take l.index l.entries))))
    × AllByRecursion CanBeMade (renaming (name_for l.names) (key_for l.names.keys) 0 (map entry_reading_of (take l.index l.entries)))
    × AllByRecursion (EndsInWhite l.text)
    (renaming (name_for l.names) (key_for l.names.keys) 0 (map entry_reading_of (take l.index l.entries)))
