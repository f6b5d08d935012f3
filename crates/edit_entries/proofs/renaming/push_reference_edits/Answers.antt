use Rattle.std.proofs.Common.{map}
use Rattle.std.specs.List.{AllByRecursion}
use Rattle.std.proofs.lemmas.Result.{err_from_is_err_and}
use Rattle.bib_syntax.specs.Views.{field_of}
use Rattle.edit_entries.specs.NewKeys.{name_for}
use Rattle.edit_entries.specs.References.{CanBeMade, reference_changes, renamed_value, value_change}
use Rattle.edit_entries.proofs.ChangeListFacts.{all_at, refused_more}
use Rattle.edit_entries.proofs.PositionFacts.{slice_get-map}
use Rattle.edit_entries.proofs.renaming.push_reference_edits.Goals as goal

pub push_reference_edit-requires : goal.push_reference_edit-requires
push_reference_edit-requires c =
    c.requires c.fields.field-index (field_of c.field-item.result)
    (slice_get-map field_of c.args.fields.now c.fields.field-index c.field-item.result c.fields-test.true
    c.field-item.is)

pub returns-in_err-push_reference_edit-clause-refused : goal.returns-in_err-push_reference_edit-clause-refused
returns-in_err-push_reference_edit-clause-refused c =
    let p = err_from_is_err_and c.from_residual.result c.from_residual.ensures.1 in
    rw (p.1, p.2) (refused_more
    (AllByRecursion CanBeMade
    (value_change (field_of c.field-item.result)
    (renamed_value (name_for c.args.names.now) (field_of c.field-item.result))))
    (AllByRecursion CanBeMade (reference_changes (name_for c.args.names.now) (map field_of c.args.fields.now))) _
    (all_at CanBeMade (λ f. value_change f (renamed_value (name_for c.args.names.now) f)) field_of c.args.fields.now
    c.fields.field-index c.field-item.result c.fields-test.true c.field-item.is)
    c.in_err-push_reference_edit.ensures.refused)
