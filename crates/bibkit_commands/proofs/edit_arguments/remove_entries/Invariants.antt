use Rattle.std.proofs.Common.{◌≡◌, Some, map, take}
use Rattle.bibkit_commands.specs.EditsAsked.{removed_by}
use Rattle.bibkit_commands.proofs.edit_arguments.remove_entries.Given as goal

abbrev pub invariant-keys : goal.invariant-keys
invariant-keys l = map removed_by l.edits.items ≡ map Some (map (λ key. key.now) (take l.key-index l.keys))
