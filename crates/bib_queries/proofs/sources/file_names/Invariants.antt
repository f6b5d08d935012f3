use Rattle.std.proofs.Common.{◌≡◌, map, take}
use Rattle.std.specs.String.{string_bytes}
use Rattle.bib_queries.specs.Sources.{file_name}
use Rattle.bib_queries.proofs.sources.file_names.Given as goal

abbrev pub invariant-names : goal.invariant-names
invariant-names l = map string_bytes l.files.items ≡ map file_name (map (λ n. n.now) (take l.name-index l.names))
