use Rattle.std.proofs.Common.{length, ◌-◌, ◌≤◌}
use Rattle.std.specs.Str.{IsCharBoundary}
use Rattle.bib_text.specs.Places.{place}
use Rattle.bib_contents.proofs.PlainFacts.{Itself}
use Rattle.bib_contents.proofs.characters.Characters.eat_as_is.Given as goal

-- each passed character is parsed as itself, and the cursor is at a character boundary
abbrev pub invariant-run : goal.invariant-run
invariant-run l = (l.start ≤ l.at) × IsCharBoundary l.text l.at × Itself l.is_verbatim (place l.text l.start) (place l.text l.at)

abbrev pub decreases-run : goal.decreases-run
decreases-run l = length l.bytes - l.at
