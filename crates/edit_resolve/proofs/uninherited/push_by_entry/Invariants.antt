use Rattle.std.proofs.Common.{◌≡◌, ◌++◌, map, take}
use Rattle.std.specs.BTreeSet.{contains_text}
use Rattle.std.specs.List.{flat_map}
use Rattle.bib_syntax.specs.Views.{entry_reading_of, field_of}
use Rattle.edit_resolve.specs.Uninherited.{uninherited_by}
use Rattle.edit_resolve.specs.Views.{uninherited_list}
use Rattle.edit_resolve.specs.Working.{fields_at, readings}
use Rattle.edit_resolve.proofs.uninherited.push_by_entry.Given as goal

abbrev pub invariant-fields : goal.invariant-fields
invariant-fields l =
    uninherited_list l.found.items
    ≡ uninherited_list l.initial.found.items
    ++ flat_map
    (uninherited_by (readings l.file) (fields_at l.fields) (contains_text l.child.names) (entry_reading_of l.child.entry.now))
    (map field_of (take l.field-index l.field-items))
