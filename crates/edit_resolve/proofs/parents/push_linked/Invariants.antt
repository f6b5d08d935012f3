use Rattle.std.proofs.Common.{◌≡◌, ◌++◌, map, take}
use Rattle.bib_syntax.specs.Views.{field_of}
use Rattle.edit_resolve.specs.Parents.{linked}
use Rattle.edit_resolve.specs.Working.{readings}
use Rattle.edit_resolve.proofs.parents.push_linked.Given as goal

abbrev pub invariant-fields : goal.invariant-fields
invariant-fields l =
    l.parents.items ≡ l.initial.parents.items ++ linked (readings l.file) l.link (map field_of (take l.field-index l.fields))
