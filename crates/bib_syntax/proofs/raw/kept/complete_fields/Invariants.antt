use Rattle.std.proofs.Common.{length, ◌-◌, map}
use Rattle.bib_syntax.specs.Views.{field_of}
use Rattle.bib_syntax.proofs.KeptFacts.{KeptSoFar}
use Rattle.bib_syntax.proofs.raw.kept.complete_fields.Given as goal

abbrev pub invariant-fields : goal.invariant-fields
invariant-fields l = KeptSoFar l.fn.s (map field_of l.pairs.items) l.s

abbrev pub decreases-fields : goal.decreases-fields
decreases-fields l = length l.s.text - l.s.at
