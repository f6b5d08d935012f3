use Rattle.std.proofs.Common.{subst, sym, ◌∙◌}
use Rattle.std.specs.String.{string_bytes}
use Rattle.edit_entries.specs.Documents.{IsEdited}
use Rattle.bibkit_edits.specs.Edited.{EditOutcome}
use Rattle.bibkit_edits.specs.declared.edit.Edit.{Edit}
use Rattle.bibkit_edits.proofs.EditedFacts.{adds_made}
use Rattle.bibkit_edits.proofs.editing.edit_document.Goals as goal

pub returns-in_ok-add_entries-in-Add-clause-made : goal.returns-in_ok-add_entries-in-Add-clause-made
returns-in_ok-add_entries-in-Add-clause-made c =
    let P : Edit → Type 0 = λ e. IsEdited (EditOutcome e c.args.document.now) (string_bytes c.in_ok-add_entries-in-Add.field-0) in
    subst P (sym c.in-Add.is)
    (adds_made c.in_ok-more-in-Add.more
    (record {
      same = c.in_ok-more-in-Add.ensures.same ∙ (c.as_str.ensures.value ∙ c.in_ok-text-in-Add.ensures.same);
      read = c.in_ok-more-in-Add.ensures.read;
    })
    c.in_ok-add_entries-in-Add.ensures.added)
