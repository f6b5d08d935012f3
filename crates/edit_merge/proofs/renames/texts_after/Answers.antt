use Rattle.std.proofs.Common.{map, subst, sym, ◌∙◌}
use Rattle.std.specs.Prelude.{filter}
use Rattle.std.proofs.lemmas.Result.{IfOk-weaker}
use Rattle.edit_entries.specs.Documents.{IsDocument}
use Rattle.edit_merge.specs.RenameViews.{rename_view}
use Rattle.edit_merge.specs.Renames.{AreDocumentsOf, AreNewTexts, Documents, IsVersionDocument, have_one, new_key}
use Rattle.edit_merge.specs.Views.{new_texts_of, versions_of}
use Rattle.edit_merge.proofs.EntryFacts.{none_found, some_found}
use Rattle.edit_merge.proofs.RenameFacts.{no_version_document, same_documents}
use Rattle.edit_merge.proofs.RenameLawFacts.{nothing_renamed}
use Rattle.edit_merge.proofs.renames.texts_after.Goals as goal

pub returns-then-is_empty : goal.returns-then-is_empty
returns-then-is_empty c = λ ds are.
    subst (AreNewTexts (new_key (filter (have_one ds) (map rename_view c.args.renames.now))) ds) (sym c.none.ensures)
    (nothing_renamed ds rename_view c.args.renames.now (sym c.is_empty.ensures ∙ c.if-is_empty.true))

pub returns-in_default : goal.returns-in_default
returns-in_default c = λ ds are.
    absurd (no_version_document _ c.text.ensures (none_found _ c.in_default.is c.in_ok-base.ensures) are.base)

pub returns-in_default-2 : goal.returns-in_default-2
returns-in_default-2 c = λ ds are.
    absurd (no_version_document _ c.text-2.ensures (none_found _ c.in_default-2.is c.in_ok-ours.ensures) are.ours)

pub returns-in_default-3 : goal.returns-in_default-3
returns-in_default-3 c = λ ds are.
    absurd (no_version_document _ c.text-3.ensures (none_found _ c.in_default-3.is c.in_ok-theirs.ensures) are.theirs)

pub returns : goal.returns
returns c =
    let vs = versions_of c.args.versions in
    let base : IsVersionDocument vs.base c.in-Some.base = record {
      text = some_found _ _ c.in-Some.is c.in_ok-base.ensures ∙ c.text.ensures;
      read = subst IsDocument c.base.view_is c.base.invariant;
    } in
    let ours : IsVersionDocument vs.ours c.in-Some-2.ours = record {
      text = some_found _ _ c.in-Some-2.is c.in_ok-ours.ensures ∙ c.text-2.ensures;
      read = subst IsDocument c.ours.view_is c.ours.invariant;
    } in
    let theirs : IsVersionDocument vs.theirs c.in-Some-3.theirs = record {
      text = some_found _ _ c.in-Some-3.is c.in_ok-theirs.ensures ∙ c.text-3.ensures;
      read = subst IsDocument c.theirs.view_is c.theirs.invariant;
    } in
    let own : Documents = record { base = c.in-Some.base; ours = c.in-Some-2.ours; theirs = c.in-Some-3.theirs } in
    let own_are : AreDocumentsOf vs own = record { base = base; ours = ours; theirs = theirs } in
    IfOk-weaker c.texts_of_documents.result _ _
    (λ texts made. λ ds are.
    subst (λ x. AreNewTexts (new_key (filter (have_one x) (map rename_view c.args.renames.now))) x (new_texts_of texts))
    (same_documents own ds own_are are) made)
    c.texts_of_documents.ensures
