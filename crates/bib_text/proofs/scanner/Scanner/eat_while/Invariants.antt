use Rattle.std.proofs.Common.{length, ◌-◌, ◌≤◌, true}
use Rattle.std.specs.Str.{IsCharBoundary}
use Rattle.bib_text.specs.Places.{place, AllBetween}
use Rattle.bib_text.proofs.scanner.Scanner.eat_while.Given as goal

-- the test may accept each character passed so far, and `at` is a character boundary that isn't before `start`
abbrev pub invariant-run : goal.invariant-run
invariant-run g l =
    (l.start ≤ l.at)
    × IsCharBoundary l.self-inside.text.now l.at
    × AllBetween (λ c. goal.F-post g l.test c true) (place l.self-inside.text.now l.start) (place l.self-inside.text.now l.at)

abbrev pub decreases-run : goal.decreases-run
decreases-run g l = length l.bytes - l.at
