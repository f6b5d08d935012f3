use Rattle.std.proofs.Common.{◌≡◌, take}
use Rattle.std.specs.List.{flat_map}
use Rattle.bib_tables.specs.Requirements.{texts}
use Rattle.bib_tables.proofs.mechanics.requirements.Row.optional.Given as goal

-- the names are those of the groups so far
abbrev pub invariant-loop-group : goal.invariant-loop-group
invariant-loop-group l = texts l.names.items ≡ flat_map (λ group. texts group.now) (take l.group-index l.self.optional.now)
