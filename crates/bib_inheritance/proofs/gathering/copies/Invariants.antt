use Rattle.bib_inheritance.proofs.GatheredFacts.{AreCopied}
use Rattle.bib_inheritance.proofs.gathering.copies.Given as goal

-- the copies so far, together with those of the remaining fields, are all copies
abbrev pub invariant-gathered : goal.invariant-gathered
invariant-gathered l = AreCopied l.own l.initial.name-iterator l.name-iterator l.copies.items
