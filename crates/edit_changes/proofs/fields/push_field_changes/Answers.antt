use Rattle.std.proofs.Common.{map, ap, ◌∙◌}
use Rattle.bib_syntax.specs.Views.{field_of}
use Rattle.edit_versions.specs.Versions.{indices_of}
use Rattle.edit_changes.proofs.FieldFacts.{both_pushed}
use Rattle.edit_changes.proofs.fields.push_field_changes.Goals as goal

pub returns : goal.returns
returns c =
    both_pushed c.args.place (map field_of c.args.fields.now) (map field_of c.args.others.now) c.deref-3.result.now c.deref-4.result.now
    c.in_ok-indices.indices c.in_ok-other_indices.other_indices c.args.changes.now.items c.push_removed.new.changes.items
    c.push_present.new.changes.items (c.deref-3.ensures.value ∙ c.in_ok-names.ensures)
    (c.deref-4.ensures.value ∙ c.in_ok-other_names.ensures)
    (c.in_ok-indices.ensures ∙ ap indices_of (c.deref.ensures.value ∙ c.in_ok-names.ensures))
    (c.in_ok-other_indices.ensures ∙ ap indices_of (c.deref-2.ensures.value ∙ c.in_ok-other_names.ensures))
    c.in_ok-push_removed.ensures c.in_ok-push_present.ensures
