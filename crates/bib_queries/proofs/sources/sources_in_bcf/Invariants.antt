use Rattle.std.proofs.Common.{◌≡◌, map}
use Rattle.std.specs.List.{flat_map}
use Rattle.std.specs.String.{string_bytes}
use Rattle.bib_queries.specs.Elements.{source_name}
use Rattle.bib_queries.proofs.sources.sources_in_bcf.Given as goal

abbrev pub invariant-elements : goal.invariant-elements
invariant-elements l = map string_bytes l.files.items ≡ flat_map source_name (map (λ piece. piece.now) l.yielded)
