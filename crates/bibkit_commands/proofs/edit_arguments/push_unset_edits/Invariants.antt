use Rattle.std.proofs.Common.{◌≡◌, ◌++◌, map, take}
use Rattle.bibkit_commands.specs.EditsAsked.{change_by, unset_change}
use Rattle.bibkit_commands.proofs.edit_arguments.push_unset_edits.Given as goal

abbrev pub invariant-names : goal.invariant-names
invariant-names l =
    map change_by l.edits.items
    ≡ map change_by l.initial.edits.items ++ map unset_change (map (λ name. name.now) (take l.name-index l.names))
