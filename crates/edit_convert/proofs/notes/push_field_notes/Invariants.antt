use Rattle.std.proofs.Common.{◌≡◌, ◌++◌, drop, map}
use Rattle.bib_syntax.specs.Views.{field_of}
use Rattle.edit_convert.specs.Notes.{indexed, note_at}
use Rattle.edit_convert.specs.Rules.{rules_note}
use Rattle.edit_convert.proofs.notes.push_field_notes.Given as goal

abbrev pub invariant-fields : goal.invariant-fields
invariant-fields l = l.notes.items ++ indexed (λ j f. note_at l.index j (rules_note l.rules f)) l.at (map field_of (drop l.at l.fields))
    ≡ l.initial.notes.items ++ indexed (λ j f. note_at l.index j (rules_note l.rules f)) 0 (map field_of l.fields)
