use Rattle.std.proofs.Common.{◌≡◌, drop}
use Rattle.bib_keys.specs.Years.{four_digits}
use Rattle.bib_keys.proofs.years.four_digits.Given as goal

abbrev pub invariant-starts : goal.invariant-starts
invariant-starts l = four_digits l.text ≡ four_digits (drop l.start l.text)
