use Rattle.std.proofs.Common.{◌≡◌, map, take}
use Rattle.bib_tables.specs.Requirements.{texts}
use Rattle.bib_inheritance.proofs.gathering.names_of.Given as goal

-- the names of the fields so far
abbrev pub invariant-fields : goal.invariant-fields
invariant-fields l = texts l.names.items ≡ map (λ e. e.0) (take l.field-index l.field-items)
