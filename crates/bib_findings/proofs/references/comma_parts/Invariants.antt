use Rattle.std.proofs.Common.{◌≡◌, map}
use Rattle.std.specs.List.{flat_map}
use Rattle.std.specs.Str.{trim}
use Rattle.bib_queries.specs.Names.{name_if_filled}
use Rattle.bib_findings.proofs.references.comma_parts.Given as goal

-- the first parts that aren't empty were appended
abbrev pub invariant-parts : goal.invariant-parts
invariant-parts l = l.parts.items ≡ flat_map (λ part. name_if_filled (trim part)) (map (λ p. p.now) l.yielded)
