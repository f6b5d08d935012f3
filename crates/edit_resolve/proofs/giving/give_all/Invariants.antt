use Rattle.std.proofs.Common.{map, take}
use Rattle.std.specs.List.{filter}
use Rattle.edit_resolve.specs.Inheritance.{passes_on, read_name}
use Rattle.edit_resolve.specs.Working.{Gives, named_of}
use Rattle.edit_resolve.proofs.giving.give_all.Given as goal

abbrev pub invariant-fields : goal.invariant-fields
invariant-fields l =
    Gives l.initial.given (filter (λ n. passes_on (read_name n.name)) (map named_of (take l.named-index l.fields))) l.given
