use Rattle.std.proofs.Common.{◌≡◌, ◌++◌, take}
use Rattle.std.specs.BTreeSet.{contains_text}
use Rattle.std.specs.List.{flat_map}
use Rattle.bib_syntax.specs.Views.{entry_reading_of, field_of}
use Rattle.edit_resolve.specs.Parents.{entry_at}
use Rattle.edit_resolve.specs.Uninherited.{lacking_names, uninherited_of}
use Rattle.edit_resolve.specs.Views.{uninherited_list}
use Rattle.edit_resolve.specs.Working.{fields_at, readings}
use Rattle.edit_resolve.proofs.uninherited.push_of_parents.Given as goal

abbrev pub invariant-parents : goal.invariant-parents
invariant-parents l =
    uninherited_list l.found.items
    ≡ uninherited_list l.initial.found.items
    ++ flat_map
    (λ p.
    uninherited_of (entry_reading_of l.child.entry.now) (field_of l.reference) (entry_at (readings l.file) p.index)
    (lacking_names (readings l.file) (fields_at l.fields) (contains_text l.child.names) (entry_reading_of l.child.entry.now) p))
    (take l.parent-index l.parents)
