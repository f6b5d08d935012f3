use Rattle.std.proofs.Common.{arith, map, ap, sym, subst, ◌∙◌}
use Rattle.std.proofs.lemmas.List.{nil_from_length}
use Rattle.bib_text.proofs.ReverseFacts.{reverse_of_map}
use Rattle.edit_units.proofs.UnitFacts.{AreMade, all_made, line_within}
use Rattle.edit_units.specs.Views.{unit_reading_of}
use Rattle.edit_units.proofs.units.units_of_lines.Goals as goal

pub is_blank_line-requires-clause-order : goal.is_blank_line-requires-clause-order
is_blank_line-requires-clause-order c = (line_within _ c.in-Some.line c.requires c.lines.invariant c.in-Some.ensures.items).order

pub is_blank_line-requires-clause-within : goal.is_blank_line-requires-clause-within
is_blank_line-requires-clause-within c = (line_within _ c.in-Some.line c.requires c.lines.invariant c.in-Some.ensures.items).end

pub returns : goal.returns
returns c =
    let none = nil_from_length c.lines.lines.items (omega (arith, c.in_default.ensures.cases.0, c.lines.lines.ok.0)) in
    ap (map unit_reading_of) c.reverse.ensures.items ∙ sym (reverse_of_map unit_reading_of c.lines.units.items)
    ∙ all_made
    (subst (λ left. AreMade c.args.text.now c.args.lines.items left c.lines.units.items c.lines.is_filled) none c.lines.invariant)
