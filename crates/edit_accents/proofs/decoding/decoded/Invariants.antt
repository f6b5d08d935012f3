use Rattle.std.proofs.Common.{◌≡◌, ◌≤◌, drop, length}
use Rattle.edit_accents.specs.Accents.{decoded}
use Rattle.edit_accents.proofs.decoding.decoded.Given as goal

abbrev pub invariant-signs : goal.invariant-signs
invariant-signs l = record {
  within : l.at ≤ length l.signs;
  ordered : l.at ≤ l.start;
  ends : l.start ≤ length l.made.items;
  size : length l.made.items ≡ length l.signs;
  made : drop l.start l.made.items ≡ decoded (drop l.at l.signs);
}

abbrev pub decreases-signs : goal.decreases-signs
decreases-signs l = l.at
