use Rattle.std.proofs.Common.{length}
use denote.Text.{Utf8}
use denote.Shadow.{shadow}
use Rattle.bib_keys.proofs.PatternFacts.{IsReadTo}
use Rattle.bib_keys.proofs.parsing.parts.Given as goal

abbrev pub invariant-parts : goal.invariant-parts
invariant-parts l = shadow (Utf8 l.rest) × IsReadTo l.text l.parts l.rest

abbrev pub decreases-parts : goal.decreases-parts
decreases-parts l = length l.rest
