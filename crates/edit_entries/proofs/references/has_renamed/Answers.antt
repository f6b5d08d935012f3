use Rattle.std.proofs.Common.{◌∙◌}
use Rattle.std.specs.Str.{trim}
use Rattle.edit_entries.specs.NewKeys.{name_for}
use Rattle.edit_entries.specs.References.{elements_of, is_renamed}
use Rattle.edit_entries.proofs.ReferenceFacts.{any_found}
use Rattle.edit_entries.proofs.references.has_renamed.Goals as goal

pub returns : goal.returns
returns c =
    c.is_some.ensures
    ∙ any_found trim (λ e. e.now) (is_renamed (name_for c.args.names.now c.args.field.now)) (elements_of c.args.list.now)
    c.in_ok-first.first c.in_ok-first.ensures
