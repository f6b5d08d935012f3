use Rattle.std.proofs.Common.{◌≡◌, ◌≤◌, ◌+◌, ◌*◌, drop}
use Rattle.bib_findings.specs.CheckDigits.{alternating_sum}
use Rattle.bib_findings.proofs.check_digits.alternating_sum.Given as goal

-- the sum so far, and that of the other digits with the present weight, are the whole sum
abbrev pub invariant-digits : goal.invariant-digits
invariant-digits l = record {
  sum : l.sum + alternating_sum l.weight (drop l.b-index l.digits) ≡ alternating_sum 1 l.digits;
  small : l.sum ≤ 130 * l.b-index;
  least : 1 ≤ l.weight;
  most : l.weight ≤ 3;
}
