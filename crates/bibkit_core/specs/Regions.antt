-- Meaning: words of public contracts.
-- The lines and columns of the start and the end of a finding.
use Rattle.std.specs.Prelude.{ℕ, List}
use Rattle.std.specs.declared.ops.Range.{Range}
use Rattle.bib_source.specs.Positions.{position_at}
use Rattle.bibkit_core.specs.declared.regions.Region.{Region}

-- the positions of the start and the end of a span in these bytes
abbrev pub region_at : List ℕ → Range ℕ → Region
region_at bytes span = record { start = position_at bytes span.start; end = position_at bytes span.end }
