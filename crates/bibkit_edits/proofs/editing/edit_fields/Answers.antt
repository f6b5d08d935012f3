use Rattle.std.proofs.Common.{map}
use Rattle.std.specs.String.{string_bytes}
use Rattle.edit_entries.proofs.FieldEditFacts.{same_refused}
use Rattle.bibkit_edits.proofs.EditedFacts.{all_fields_made}
use Rattle.bibkit_edits.proofs.editing.edit_fields.Goals as goal

pub returns-clause-made : goal.returns-clause-made
returns-clause-made c =
    all_fields_made string_bytes c.edit_fields.result (map (λ k. k.now) c.args.keys.now) c.args.edit.now c.in_ok-set.set c.args.document.now
    c.in_ok-set.ensures c.edit_fields.ensures.name c.edit_fields.ensures.value c.edit_fields.ensures.edited

pub returns-clause-refused : goal.returns-clause-refused
returns-clause-refused c =
    same_refused c.edit_fields.result c.args.document.now _ _ c.in_ok-set.ensures c.args.edit.now c.edit_fields.ensures.refused
