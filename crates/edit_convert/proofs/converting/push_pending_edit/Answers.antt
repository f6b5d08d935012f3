use Rattle.std.proofs.Common.{◌++◌, List, map, sym, ap, ◌∙◌}
use Rattle.bib_syntax.specs.Reading.{FieldReading}
use Rattle.bib_syntax.specs.Views.{field_of}
use Rattle.edit_entries.specs.Changes.{edits_of_field}
use Rattle.edit_entries.specs.EditList.{edit_of}
use Rattle.edit_convert.specs.Tables.{replacement_by, lent_text}
use Rattle.edit_convert.specs.declared.new_fields.EntryField.{EntryField}
use Rattle.edit_convert.proofs.PendingFacts.{added_before, none_pending, still_pending}
use Rattle.edit_convert.proofs.converting.push_pending_edit.Goals as goal

pub returns-in_default-clause-left : goal.returns-in_default-clause-left
returns-in_default-clause-left c =
    none_pending (lent_text c.args.pending) (replacement_by c.args.changes.now (field_of c.args.at.now.field.now))
    (ap lent_text c.in_default.is)

pub returns-then-branch-clause-edits : goal.returns-then-branch-clause-edits
returns-then-branch-clause-edits c =
    let at : EntryField = c.args.at.now in
    let f : FieldReading = field_of at.field.now in
    let following : List FieldReading = map field_of at.following.now in
    c.in_ok-push_field_edit-2.ensures
    ∙ ap (λ change. map edit_of c.args.edits.now.items ++ edits_of_field at.text.now f following change)
    (still_pending at.text.now (map field_of at.fields.now) f (lent_text c.args.pending) following (replacement_by c.args.changes.now f)
    (sym c.in_ok-is_replaced.ensures ∙ c.if-branch.true)).0

pub returns-then-branch-clause-left : goal.returns-then-branch-clause-left
returns-then-branch-clause-left c =
    let at : EntryField = c.args.at.now in
    let f : FieldReading = field_of at.field.now in
    (still_pending at.text.now (map field_of at.fields.now) f (lent_text c.args.pending) (map field_of at.following.now)
    (replacement_by c.args.changes.now f) (sym c.in_ok-is_replaced.ensures ∙ c.if-branch.true)).1

pub returns-clause-edits : goal.returns-clause-edits
returns-clause-edits c =
    let at : EntryField = c.args.at.now in
    let f : FieldReading = field_of at.field.now in
    let following : List FieldReading = map field_of at.following.now in
    c.in_ok-push_missing_type.ensures
    ∙ ap (λ change. map edit_of c.args.edits.now.items ++ edits_of_field at.text.now f following change)
    (added_before at.text.now (map field_of at.fields.now) f (lent_text c.args.pending) c.in-Some.value.now following
    (replacement_by c.args.changes.now f) (ap lent_text c.in-Some.is) (sym c.in_ok-is_replaced.ensures ∙ c.if-branch.false)).0

pub returns-clause-left : goal.returns-clause-left
returns-clause-left c =
    let at : EntryField = c.args.at.now in
    let f : FieldReading = field_of at.field.now in
    (added_before at.text.now (map field_of at.fields.now) f (lent_text c.args.pending) c.in-Some.value.now (map field_of at.following.now)
    (replacement_by c.args.changes.now f) (ap lent_text c.in-Some.is) (sym c.in_ok-is_replaced.ensures ∙ c.if-branch.false)).1
