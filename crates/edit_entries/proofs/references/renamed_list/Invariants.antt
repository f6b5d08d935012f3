use Rattle.std.proofs.Common.{◌≡◌, map}
use Rattle.std.specs.String.{string_bytes}
use Rattle.edit_entries.specs.NewKeys.{name_for}
use Rattle.edit_entries.specs.References.{renamed_element}
use Rattle.edit_entries.proofs.references.renamed_list.Given as goal

abbrev pub invariant-elements : goal.invariant-elements
invariant-elements l =
    map string_bytes l.parts.items
    ≡ map (λ e. renamed_element (name_for l.names l.field) e) (map (λ p. p.now) l.yielded)
