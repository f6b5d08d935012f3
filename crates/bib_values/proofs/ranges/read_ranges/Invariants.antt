use Rattle.std.proofs.Common.{◌≡◌, take, map, Some}
use Rattle.bib_chunks.specs.Formatted.{formatted_chars}
use Rattle.bib_values.specs.Ranges.{all_of, range_of}
use Rattle.bib_values.proofs.ranges.read_ranges.Given as goal

-- the parts so far are these ranges
abbrev pub invariant-parts : goal.invariant-parts
invariant-parts l = all_of (map (λ part. range_of (formatted_chars part)) (take l.part-index l.part-items)) ≡ Some l.ranges.items
