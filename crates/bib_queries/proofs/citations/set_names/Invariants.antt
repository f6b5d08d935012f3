use Rattle.std.proofs.Common.{map}
use Rattle.std.specs.List.{flat_map}
use Rattle.bib_queries.specs.Collecting.{IsSetOf}
use Rattle.bib_queries.specs.Elements.{set_name}
use Rattle.bib_queries.proofs.citations.set_names.Given as goal

abbrev pub invariant-elements : goal.invariant-elements
invariant-elements l = IsSetOf l.sets (flat_map set_name (map (λ piece. piece.now) l.yielded))
