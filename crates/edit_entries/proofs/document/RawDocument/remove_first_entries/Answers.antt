use Rattle.std.proofs.Common.{◌≡◌, ◌⊎◌, false, List, ℕ, [], map, sym, ap, ◌∙◌, subst}
use Rattle.std.proofs.lemmas.Result.{err_from_is_err_and}
use Rattle.std.specs.List.{AllByRecursion}
use Rattle.std.specs.String.{string_bytes}
use Rattle.bib_syntax.specs.Views.{entry_reading_of}
use Rattle.edit_entries.specs.Documents.{Document, IsDocument}
use Rattle.edit_entries.specs.EditList.{AreEditsInOrder, edit_of}
use Rattle.edit_entries.specs.Edits.{edited_all}
use Rattle.edit_entries.specs.Placed.{IsEntryPlaced}
use Rattle.edit_entries.specs.Selected.{AreRemovals, FirstsAreRefused, has_each, is_first_with, passing_after}
use Rattle.edit_entries.proofs.AllFacts.{all_found}
use Rattle.edit_entries.proofs.EntriesRemovedFacts.{firsts_removed, passing_in_order}
use Rattle.edit_entries.proofs.FirstFacts.{firsts_refused}
use Rattle.edit_entries.proofs.RemovedFacts.{entry_placed}
use Rattle.edit_entries.specs.declared.errors.EditError.TheVariants.{OutOfMemory, UnknownKey}
use Rattle.edit_entries.proofs.document.RawDocument.remove_first_entries.Goals as goal
use Rattle.edit_entries.proofs.document.RawDocument.remove_first_entries.Goals.{After-deref-2}

pub first_removals-requires : goal.first_removals-requires
first_removals-requires c =
    let d : Document = c.args.self.now in
    let read : IsDocument d = subst IsDocument c.self.view_is c.self.invariant in
    let listed : map entry_reading_of c.deref.result.now ≡ d.says.entries =
    ap (map entry_reading_of) c.deref.ensures.value ∙ ap (λ x. x.says.entries) c.self.view_is in
    record {
      placed =
          subst (λ t. AllByRecursion (IsEntryPlaced t) (map entry_reading_of c.deref.result.now)) (sym c.text-text.ensures)
          (subst (AllByRecursion (IsEntryPlaced d.text)) (sym listed)
          (all_found (IsEntryPlaced d.text) d.says.entries (λ k e here. entry_placed d k e read here)));
    }

-- the edits are those that remove the first entries with the keys
made : (c : After-deref-2) → AreRemovals c.args.self.now.text
    (passing_after (is_first_with (map (λ k. k.now) c.args.keys.now)) [] c.args.self.now.says.entries) (map edit_of c.deref-2.result.now)
made c =
    let d : Document = c.args.self.now in
    let test = is_first_with (map (λ k. k.now) c.args.keys.now) in
    let listed : map entry_reading_of c.deref.result.now ≡ d.says.entries =
    ap (map entry_reading_of) c.deref.ensures.value ∙ ap (λ x. x.says.entries) c.self.view_is in
    subst (λ edits. AreRemovals d.text (passing_after test [] d.says.entries) (map edit_of edits)) (sym c.deref-2.ensures.value)
    (subst (λ t. AreRemovals t (passing_after test [] d.says.entries) (map edit_of c.in_ok-edits.edits.items)) c.text-text.ensures
    (subst (λ es. AreRemovals c.text-text.result.now (passing_after test [] es) (map edit_of c.in_ok-edits.edits.items)) listed
    c.in_ok-edits.ensures.made))

pub edited_all-requires : goal.edited_all-requires
edited_all-requires c =
    let d : Document = c.args.self.now in
    let read : IsDocument d = subst IsDocument c.self.view_is c.self.invariant in
    let edits = map edit_of c.deref-2.result.now in
    subst (λ t. AreEditsInOrder t 0 edits) (sym c.text-text.ensures)
    (passing_in_order d read (is_first_with (map (λ k. k.now) c.args.keys.now)) edits
    (made ((goal.at.edited_all-requires c).After-deref-2)))

pub returns-clause-removed : goal.returns-clause-removed
returns-clause-removed c =
    let d : Document = c.args.self.now in
    let read : IsDocument d = subst IsDocument c.self.view_is c.self.invariant in
    let keys : List (List ℕ) = map (λ k. k.now) c.args.keys.now in
    let edits = map edit_of c.deref-2.result.now in
    let listed : map entry_reading_of c.deref.result.now ≡ d.says.entries =
    ap (map entry_reading_of) c.deref.ensures.value ∙ ap (λ x. x.says.entries) c.self.view_is in
    firsts_removed string_bytes c.in_ok-edited_all.field-0 d keys edits read
    (ap (λ es. has_each es keys) (sym listed) ∙ c.in_ok-edits.ensures.found)
    (made ((goal.at.returns-clause-removed c).After-deref-2))
    (c.in_ok-edited_all.ensures ∙ ap (edited_all edits) c.text-text.ensures)

pub returns-in_err-edits-clause-refused : goal.returns-in_err-edits-clause-refused
returns-in_err-edits-clause-refused c =
    let d : Document = c.args.self.now in
    let keys : List (List ℕ) = map (λ k. k.now) c.args.keys.now in
    let e = c.in_err-edits.field-0.0 in
    let p = err_from_is_err_and c.from_residual.result c.from_residual.ensures.1 in
    let listed : map entry_reading_of c.deref.result.now ≡ d.says.entries =
    ap (map entry_reading_of) c.deref.ensures.value ∙ ap (λ x. x.says.entries) c.self.view_is in
    rw (p.1, p.2)
    (firsts_refused d keys e
    (subst (λ es. (e ≡ OutOfMemory) ⊎ ((e ≡ UnknownKey) × (has_each es keys ≡ false))) listed c.in_err-edits.ensures.refused))
