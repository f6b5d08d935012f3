use Rattle.std.proofs.Common.{map, take}
use Rattle.std.specs.List.{flat_map}
use Rattle.edit_resolve.specs.Inheritance.{name_by_crossref, read_name}
use Rattle.edit_resolve.specs.Resolved.{renamed}
use Rattle.edit_resolve.specs.Working.{Offered, named_of}
use Rattle.edit_resolve.proofs.gathering.push_all_renamed.Given as goal

abbrev pub invariant-fields : goal.invariant-fields
invariant-fields l =
    Offered l.initial.gathered
    (flat_map (λ n. renamed n (name_by_crossref l.parent l.child (read_name n.name))) (map named_of (take l.named-index l.fields)))
    l.gathered
