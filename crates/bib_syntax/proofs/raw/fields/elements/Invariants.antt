use Rattle.std.proofs.Common.{length, ◌-◌, map}
use Rattle.bib_text.proofs.PlaceFacts.{Ahead}
use Rattle.bib_syntax.specs.Views.{piece_of}
use Rattle.bib_syntax.proofs.FieldFacts.{ElementsRead}
use Rattle.bib_syntax.proofs.raw.fields.elements.Given as goal

abbrev pub invariant-elements : goal.invariant-elements
invariant-elements l = Ahead l.fn.s l.s × ElementsRead l.fn.s (map piece_of l.pieces.items) l.s

abbrev pub decreases-elements : goal.decreases-elements
decreases-elements l = length l.s.text - l.s.at
