use Rattle.std.proofs.Common.{◌≡◌, ◌+◌, drop}
use Rattle.bib_people.specs.Names.{leading}
use Rattle.bib_people.specs.WordKinds.{is_of}
use Rattle.bib_people.proofs.person.cuts.leading.Given as goal

abbrev pub invariant-words : goal.invariant-words
invariant-words l = leading (is_of l.kind) l.words ≡ l.i + leading (is_of l.kind) (drop l.i l.words)
