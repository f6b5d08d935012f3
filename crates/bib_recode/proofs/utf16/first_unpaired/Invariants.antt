use Rattle.std.proofs.Common.{◌≡◌, ◌≤◌, ◌-◌, false, length, take}
use Rattle.std.specs.Char.Utf16.{has_unpaired_surrogate}
use Rattle.bib_recode.proofs.utf16.first_unpaired.Given as goal

-- the units so far spell characters
abbrev pub invariant-units : goal.invariant-units
invariant-units l = record { within : l.at ≤ length l.units; before : has_unpaired_surrogate (take l.at l.units) ≡ false }

abbrev pub decreases-units : goal.decreases-units
decreases-units l = length l.units - l.at
