use Rattle.std.proofs.Common.{◌-◌, length, map}
use Rattle.bib_text.specs.Places.{place}
use Rattle.bib_select.specs.Views.{placed_of}
use Rattle.bib_select.proofs.TokenFacts.{TokensSoFar}
use Rattle.bib_select.proofs.tokens.tokens.Given as goal

abbrev pub invariant-tokens : goal.invariant-tokens
invariant-tokens l = TokensSoFar (place l.text 0) (map placed_of l.tokens.items) l.s

abbrev pub decreases-tokens : goal.decreases-tokens
decreases-tokens l = length l.s.text - l.s.at
