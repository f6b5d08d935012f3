use Rattle.std.proofs.Common.{◌≡◌, IfOk, List, ℕ, Option, Some, None, option_map, subst, sym}
use Rattle.std.proofs.lemmas.Result.{IfOk-weaker}
use Rattle.edit_entries.specs.Documents.{Document, IsDocument}
use Rattle.edit_entry_merge.specs.Views.{merge_of}
use Rattle.edit_merge.specs.Entries.{HasDocument, IsFieldMerge}
use Rattle.edit_merge.proofs.EntryFacts.{merge_of_texts, no_base, no_document, none_found, some_found}
use Rattle.edit_merge.proofs.entries.merge_texts.Goals as goal

pub returns-in_default : goal.returns-in_default
returns-in_default c = λ b ours theirs is_b is_o is_t. absurd (no_document (none_found _ c.in_default.is c.in_ok-ours.ensures) is_o)

pub returns-in_default-2 : goal.returns-in_default-2
returns-in_default-2 c = λ b ours theirs is_b is_o is_t. absurd (no_document (none_found _ c.in_default-2.is c.in_ok-theirs.ensures) is_t)

pub returns-in_default-base : goal.returns-in_default-base
returns-in_default-base c =
    let ours : HasDocument (Some c.args.ours.now) (Some c.in-Some.ours) =
    (some_found _ _ c.in-Some.is c.in_ok-ours.ensures, subst IsDocument c.ours.view_is c.ours.invariant) in
    let theirs : HasDocument (Some c.args.theirs.now) (Some c.in-Some-2.theirs) =
    (some_found _ _ c.in-Some-2.is c.in_ok-theirs.ensures, subst IsDocument c.theirs.view_is c.theirs.invariant) in
    subst (λ x. IfOk c.merge_entry.result (λ m. IsFieldMerge (option_map (λ t. t.now) x) (Some c.args.ours.now) (Some c.args.theirs.now)
    (merge_of m))) (sym c.in_default-base.is)
    (IfOk-weaker c.merge_entry.result _ _
    (λ m made. merge_of_texts None None c.in-Some.ours c.in-Some-2.theirs tt ours theirs made) c.merge_entry.ensures.merge)

pub returns-in-Some-3 : goal.returns-in-Some-3
returns-in-Some-3 c =
    let ours : HasDocument (Some c.args.ours.now) (Some c.in-Some.ours) =
    (some_found _ _ c.in-Some.is c.in_ok-ours.ensures, subst IsDocument c.ours.view_is c.ours.invariant) in
    let theirs : HasDocument (Some c.args.theirs.now) (Some c.in-Some-2.theirs) =
    (some_found _ _ c.in-Some-2.is c.in_ok-theirs.ensures, subst IsDocument c.theirs.view_is c.theirs.invariant) in
    let base : HasDocument (Some c.in-Some-base.base.now) (Some c.in-Some-3.base) =
    (some_found _ _ c.in-Some-3.is c.in_ok-base.ensures, subst IsDocument c.base.view_is c.base.invariant) in
    subst (λ x. IfOk c.merge_entry-in-Some-3.result (λ m. IsFieldMerge (option_map (λ t. t.now) x) (Some c.args.ours.now)
    (Some c.args.theirs.now) (merge_of m))) (sym c.in-Some-base.is)
    (IfOk-weaker c.merge_entry-in-Some-3.result _ _
    (λ m made. merge_of_texts (Some c.in-Some-base.base.now) (Some c.in-Some-3.base) c.in-Some.ours c.in-Some-2.theirs base ours theirs
    made)
    c.merge_entry-in-Some-3.ensures.merge)

pub returns : goal.returns
returns c = λ b ours theirs is_b is_o is_t.
    absurd (no_base b (none_found _ c.in-None.is c.in_ok-base.ensures)
    (subst (λ x. HasDocument (option_map (λ t. t.now) x) b) c.in-Some-base.is is_b))
