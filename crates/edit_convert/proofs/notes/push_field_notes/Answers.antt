use Rattle.std.proofs.Common.{◌++◌, ap, ◌∙◌}
use Rattle.bib_syntax.specs.Views.{field_of}
use Rattle.edit_convert.specs.Notes.{note_at}
use Rattle.edit_convert.specs.Rules.{rules_note}
use Rattle.edit_convert.proofs.NoteFacts.{indexed_end, indexed_step}
use Rattle.edit_convert.proofs.notes.push_field_notes.Goals as goal

pub fields-preserved : goal.fields-preserved
fields-preserved c =
    indexed_step field_of (λ j f. note_at c.args.index j (rules_note c.args.rules.now f)) c.args.fields.now c.fields.at
    c.index-fields-at.result c.fields-test.true c.index-fields-at.is _ _ _
    (c.in_ok-push_note.ensures
    ∙ ap (λ o. c.fields.notes.items ++ note_at c.args.index c.fields.at o) c.in_ok-field_note.ensures)
    c.fields.invariant

pub returns : goal.returns
returns c =
    indexed_end field_of (λ j f. note_at c.args.index j (rules_note c.args.rules.now f)) c.args.fields.now c.fields.at _
    _ c.fields-test.false c.fields.invariant
