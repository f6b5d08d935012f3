use Rattle.std.proofs.Common.{◌≡◌, ℕ, List, Option, Result, Ok, Err, sym, ap, ◌∙◌}
use Rattle.std.specs.Option.{option_and_then}
use Rattle.std.specs.Prelude.{IfOk}
use Rattle.bib_syntax.specs.Reading.{FieldReading}
use Rattle.bib_syntax.specs.Views.{field_of}
use Rattle.edit_convert.specs.Conversions.{other_name}
use Rattle.edit_convert.specs.Notes.{replaced_note, kept_note}
use Rattle.edit_convert.specs.Rules.{rules_note}
use Rattle.edit_convert.specs.declared.notes.NoteKind.{NoteKind}
use Rattle.edit_convert.specs.Tables.{replacement_by, lent_names}
use Rattle.edit_convert.proofs.ReplacementFacts.{note_of_kept, note_of_replaced}
use Rattle.edit_convert.proofs.notes.field_note.Goals as goal

pub returns-then-branch : goal.returns-then-branch
returns-then-branch c =
    let f : FieldReading = field_of c.args.field.now in
    ok_note c.replaced_note.result (option_and_then replaced_note (replacement_by c.args.rules.now.changes f))
    (rules_note c.args.rules.now f) c.replaced_note.ensures
    (note_of_replaced c.args.rules.now.dialect (replacement_by c.args.rules.now.changes f)
    (other_name (lent_names c.args.rules.now.names.now) f.name.text) f
    (sym c.in_ok-is_replaced.ensures ∙ c.if-branch.true))
  where
    ok_note : {E : Type 0} (r : Result (Option NoteKind) E) (said is : Option NoteKind) → IfOk r (λ note. note ≡ said) → said ≡ is
        → IfOk r (λ note. note ≡ is)
    ok_note (Err e) said is told same = _
    ok_note (Ok found) said is told same = told ∙ same

pub returns : goal.returns
returns c =
    let f : FieldReading = field_of c.args.field.now in
    let other : Option (List ℕ) = other_name (lent_names c.args.rules.now.names.now) f.name.text in
    c.kept_note.ensures ∙ ap (λ o. kept_note c.args.rules.now.dialect o f) c.other_name.ensures
    ∙ note_of_kept c.args.rules.now.dialect (replacement_by c.args.rules.now.changes f) other f
    (sym c.in_ok-is_replaced.ensures ∙ c.if-branch.false)
