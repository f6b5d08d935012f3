use Rattle.std.proofs.Common.{length, ◌-◌, map}
use Rattle.bib_text.proofs.PlaceFacts.{Ahead}
use Rattle.bib_syntax.specs.Views.{field_of}
use Rattle.bib_syntax.proofs.FieldFacts.{FieldsRead}
use Rattle.bib_syntax.proofs.raw.fields.fields.Given as goal

abbrev pub invariant-fields : goal.invariant-fields
invariant-fields l =
    Ahead l.fn.s l.s × FieldsRead l.fn.s (map field_of l.pairs.items) l.s

abbrev pub decreases-fields : goal.decreases-fields
decreases-fields l = length l.s.text - l.s.at
