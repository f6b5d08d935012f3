use Rattle.std.proofs.Common.{◌≡◌, ◌≤◌, ◌+◌, ◌*◌, length, drop}
use Rattle.bib_findings.specs.CheckDigits.{descending_sum}
use Rattle.bib_findings.proofs.check_digits.descending_sum.Given as goal

-- the sum so far and that of the other digits are the whole sum; the weight is the number of the other digits
abbrev pub invariant-digits : goal.invariant-digits
invariant-digits l = record {
  sum : l.sum + descending_sum (drop l.b-index l.digits) ≡ descending_sum l.digits;
  small : l.sum ≤ 130 * l.b-index;
  weight : l.weight + l.b-index ≡ length l.digits;
}
