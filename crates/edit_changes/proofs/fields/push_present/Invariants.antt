use Rattle.std.proofs.Common.{◌≡◌, ◌++◌, drop, map}
use Rattle.std.specs.List.{enumerate_from, flat_map}
use Rattle.bib_syntax.specs.Views.{field_of}
use Rattle.edit_changes.specs.Fields.{present_field}
use Rattle.edit_changes.proofs.fields.push_present.Given as goal

-- the changes so far, and those at the remaining names, are the old changes and those at all names
abbrev pub invariant-names : goal.invariant-names
invariant-names l =
    let here = present_field l.place (map field_of l.fields) (map field_of l.others) l.indices in
    l.changes.items ++ flat_map here (enumerate_from l.index (drop l.index l.names))
    ≡ l.initial.changes.items ++ flat_map here (enumerate_from 0 l.names)
