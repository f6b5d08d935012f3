use Rattle.bib_people.specs.WordKinds.{is_of}
use Rattle.bib_people.proofs.CutFacts.{Through}
use Rattle.bib_people.proofs.person.cuts.through_last.Given as goal

abbrev pub invariant-words : goal.invariant-words
invariant-words l = Through (is_of l.kind) l.words l.i l.end
