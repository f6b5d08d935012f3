use Rattle.std.proofs.Common.{map, take}
use Rattle.std.specs.List.{filter}
use Rattle.edit_resolve.specs.Inheritance.{keeps_name, read_name}
use Rattle.edit_resolve.specs.Working.{Offered, named_of}
use Rattle.edit_resolve.proofs.gathering.push_all_kept.Given as goal

abbrev pub invariant-fields : goal.invariant-fields
invariant-fields l =
    Offered l.initial.gathered
    (filter (λ n. keeps_name l.parent l.child (read_name n.name)) (map named_of (take l.named-index l.fields))) l.gathered
