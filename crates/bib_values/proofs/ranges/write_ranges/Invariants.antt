use Rattle.std.proofs.Common.{◌≡◌, take, map}
use Rattle.std.specs.String.{string_bytes}
use Rattle.bib_values.specs.Ranges.{range_text}
use Rattle.bib_values.proofs.ranges.write_ranges.Given as goal

abbrev pub invariant-ranges-2 : goal.invariant-ranges-2
invariant-ranges-2 l = map (λ s. string_bytes s) l.texts.items ≡ map range_text (take l.range-index l.ranges)
