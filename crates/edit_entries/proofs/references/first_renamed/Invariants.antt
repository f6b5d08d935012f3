use Rattle.std.proofs.Common.{◌≡◌, None, map}
use Rattle.std.specs.List.{find}
use Rattle.edit_entries.specs.NewKeys.{name_for}
use Rattle.edit_entries.specs.References.{is_renamed}
use Rattle.edit_entries.proofs.references.first_renamed.Given as goal

abbrev pub invariant-elements : goal.invariant-elements
invariant-elements l = find (is_renamed (name_for l.names l.field)) (map (λ p. p.now) l.yielded) ≡ None
