use Rattle.std.proofs.Common.{◌≡◌, map, sym, ap, ◌∙◌, subst}
use Rattle.std.specs.Prelude.{IfOk, filter}
use Rattle.std.specs.List.{AllByRecursion}
use Rattle.std.specs.String.{string_bytes}
use Rattle.bib_queries.specs.Sets.{is_in_set}
use Rattle.bib_syntax.specs.Views.{entry_reading_of}
use Rattle.edit_entries.specs.Documents.{Document, IsDocument}
use Rattle.edit_entries.specs.EditList.{AreEditsInOrder, edit_of}
use Rattle.edit_entries.specs.Edits.{edited_all}
use Rattle.edit_entries.specs.Placed.{IsEntryPlaced}
use Rattle.edit_entries.specs.Selected.{AreRemovals, has_selected_key}
use Rattle.edit_entries.proofs.AllFacts.{all_found}
use Rattle.edit_entries.proofs.EntriesRemovedFacts.{removal_answer, removals_in_order}
use Rattle.edit_entries.proofs.RemovedFacts.{entry_placed}
use Rattle.edit_entries.proofs.document.RawDocument.remove_entries.Goals as goal
use Rattle.edit_entries.proofs.document.RawDocument.remove_entries.Goals.{After-deref-2}

pub removals-requires : goal.removals-requires
removals-requires c =
    let d : Document = c.args.self.now in
    let read : IsDocument d = subst IsDocument c.self.view_is c.self.invariant in
    let listed : map entry_reading_of c.deref.result.now ≡ d.says.entries =
    ap (map entry_reading_of) c.deref.ensures.value ∙ ap (λ x. x.says.entries) c.self.view_is in
    record {
      placed =
          subst (λ t. AllByRecursion (IsEntryPlaced t) (map entry_reading_of c.deref.result.now)) (sym c.text-text.ensures)
          (subst (AllByRecursion (IsEntryPlaced d.text)) (sym listed)
          (all_found (IsEntryPlaced d.text) d.says.entries (λ k e here. entry_placed d k e read here)));
    }

-- the edits are those that remove the selected entries of the document
made : (c : After-deref-2) → AreRemovals c.args.self.now.text
    (filter (has_selected_key (is_in_set c.args.keys.now)) c.args.self.now.says.entries) (map edit_of c.deref-2.result.now)
made c =
    let d : Document = c.args.self.now in
    let test = has_selected_key (is_in_set c.args.keys.now) in
    let listed : map entry_reading_of c.deref.result.now ≡ d.says.entries =
    ap (map entry_reading_of) c.deref.ensures.value ∙ ap (λ x. x.says.entries) c.self.view_is in
    subst (λ edits. AreRemovals d.text (filter test d.says.entries) (map edit_of edits)) (sym c.deref-2.ensures.value)
    (subst (λ t. AreRemovals t (filter test d.says.entries) (map edit_of c.in_ok-edits.edits.items)) c.text-text.ensures
    (subst (λ es. AreRemovals c.text-text.result.now (filter test es) (map edit_of c.in_ok-edits.edits.items)) listed
    c.in_ok-edits.ensures))

pub edited_all-requires : goal.edited_all-requires
edited_all-requires c =
    let d : Document = c.args.self.now in
    let read : IsDocument d = subst IsDocument c.self.view_is c.self.invariant in
    let edits = map edit_of c.deref-2.result.now in
    subst (λ t. AreEditsInOrder t 0 edits) (sym c.text-text.ensures)
    (removals_in_order d read (is_in_set c.args.keys.now) edits (made ((goal.at.edited_all-requires c).After-deref-2)))

pub returns : goal.returns
returns c =
    let d : Document = c.args.self.now in
    let read : IsDocument d = subst IsDocument c.self.view_is c.self.invariant in
    let edits = map edit_of c.deref-2.result.now in
    removal_answer string_bytes c.edited_all.result d (is_in_set c.args.keys.now) edits read
    (made ((goal.at.returns c).After-deref-2))
    (subst (λ t. IfOk c.edited_all.result (λ new. string_bytes new ≡ edited_all edits t)) c.text-text.ensures c.edited_all.ensures)
