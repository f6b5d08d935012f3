use Rattle.std.proofs.Common.{◌≡◌, ◌∙◌, ap, false, map, subst, sym, true}
use Rattle.std.specs.Prelude.{filter}
use Rattle.std.proofs.lemmas.Result.{IfOk-weaker}
use Rattle.edit_merge.specs.Picked.{Versions}
use Rattle.edit_merge.specs.RenameViews.{rename_view}
use Rattle.edit_merge.specs.Renames.{AreNewTexts, have_different_texts, have_one, new_key, renames}
use Rattle.edit_merge.specs.Views.{new_texts_of, versions_of}
use Rattle.edit_merge.proofs.RenameLawFacts.{different_renames, equal_renames, no_renames}
use Rattle.edit_merge.proofs.renames.renamed_texts.Goals as goal

pub returns-then-not-have_different_texts : goal.returns-then-not-have_different_texts
returns-then-not-have_different_texts c = λ ds are.
    let vs : Versions = versions_of c.args.versions in
    let equal : have_different_texts vs ≡ false = sym c.have_different_texts.ensures ∙ c.if-not-have_different_texts.true in
    subst (AreNewTexts (new_key (renames vs ds)) ds) (sym c.none.ensures) (no_renames vs ds (equal_renames vs ds equal))

pub returns : goal.returns
returns c =
    let vs : Versions = versions_of c.args.versions in
    let differ : have_different_texts vs ≡ true = sym c.have_different_texts.ensures ∙ c.if-not-have_different_texts.false in
    IfOk-weaker c.texts_after.result _ _
    (λ texts made. λ ds are.
    subst (λ rs. AreNewTexts (new_key rs) ds (new_texts_of texts))
    (ap (λ l. filter (have_one ds) (map rename_view l)) c.deref.ensures.value
    ∙ sym (different_renames vs ds (map rename_view c.in_ok-renames.renames.items) differ c.in_ok-renames.ensures))
    (made ds are))
    c.texts_after.ensures
