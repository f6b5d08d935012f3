use Rattle.std.proofs.Common.{◌≡◌, map, take}
use Rattle.std.specs.Prelude.{unwrap_or}
use Rattle.bib_syntax.specs.Views.{field_of}
use Rattle.edit_resolve.specs.Resolved.{as_itself}
use Rattle.edit_resolve.specs.Working.{instead_at, named_of}
use Rattle.edit_resolve.proofs.gathering.own_fields.Given as goal

abbrev pub invariant-fields : goal.invariant-fields
invariant-fields l =
    map named_of l.own.items ≡ map (λ f. unwrap_or (instead_at l.given f) (as_itself f)) (map field_of (take l.field-index l.fields))
