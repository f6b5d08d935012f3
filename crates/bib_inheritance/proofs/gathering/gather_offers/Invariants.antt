use Rattle.bib_tables.specs.Requirements.{texts}
use Rattle.bib_inheritance.specs.EntryTexts.{texts_of_reference}
use Rattle.bib_inheritance.proofs.GatheredFacts.{IsGathered}
use Rattle.bib_inheritance.proofs.gathering.gather_offers.Given as goal

-- the fields collected for the names so far
abbrev pub invariant-names : goal.invariant-names
invariant-names l = IsGathered (texts l.names) l.name-index (texts_of_reference l.reference) l.initial.gathered l.gathered
