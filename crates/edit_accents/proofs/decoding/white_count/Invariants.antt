use Rattle.std.proofs.Common.{length, ◌-◌, ◌≡◌, ◌≤◌, ◌+◌, drop}
use Rattle.edit_accents.specs.Accents.{white_count}
use Rattle.edit_accents.proofs.decoding.white_count.Given as goal

abbrev pub invariant-signs : goal.invariant-signs
invariant-signs l = record {
  counted : white_count l.signs ≡ l.count + white_count (drop l.count l.signs);
  within : l.count ≤ length l.signs;
}

abbrev pub decreases-signs : goal.decreases-signs
decreases-signs l = length l.signs - l.count
