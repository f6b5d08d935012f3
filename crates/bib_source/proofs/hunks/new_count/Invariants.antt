use Rattle.std.proofs.Common.{◌≡◌, ◌≤◌, length, take}
use Rattle.bib_source.specs.Comparison.{new_side}
use Rattle.bib_source.proofs.hunks.new_count.Given as goal

abbrev pub invariant-lines : goal.invariant-lines
invariant-lines l = record {
  is : l.count ≡ length (new_side (take l.line-index l.lines));
  within : l.count ≤ l.line-index;
}
