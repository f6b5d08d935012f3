use Rattle.std.proofs.Common.{◌≡◌, Some, map, take}
use Rattle.bibkit_commands.specs.EditsAsked.{unset_by}
use Rattle.bibkit_commands.proofs.edit_arguments.unset_fields.Given as goal

abbrev pub invariant-names : goal.invariant-names
invariant-names l =
    map unset_by l.edits.items ≡ map (λ name. Some (l.key, name)) (map (λ name. name.now) (take l.name-index l.names))
