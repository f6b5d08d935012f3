use Rattle.std.proofs.Common.{◌≡◌, map}
use Rattle.std.specs.List.{range_with_len}
use Rattle.bib_recode.specs.Units.{unit_at}
use Rattle.bib_recode.proofs.utf16.units_of.Given as goal

-- the units so far are those of the first bytes
abbrev pub invariant-indices : goal.invariant-indices
invariant-indices l = l.units.items ≡ map (unit_at l.is_big_endian l.bytes) (range_with_len 0 l.index)
