use Rattle.std.proofs.Common.{◌≡◌, false, map, sym, ap, ◌∙◌, subst}
use Rattle.std.specs.List.{AllByRecursion, flat_map, list_any}
use Rattle.std.specs.Str.{IsUtf8}
use Rattle.std.specs.String.{string_bytes}
use Rattle.bib_queries.specs.Sets.{is_in_set}
use Rattle.bib_syntax.specs.Views.{entry_reading_of}
use Rattle.edit_entries.specs.Documents.{Document, IsDocument}
use Rattle.edit_entries.specs.EditList.{AreEditsInOrder, edit_of}
use Rattle.edit_entries.specs.Edits.{edited_all}
use Rattle.edit_entries.specs.FieldTexts.{HaveFieldsPlaced}
use Rattle.edit_entries.specs.Selected.{unset_if_selected, would_be_empty}
use Rattle.edit_entries.proofs.FieldEditFacts.{fields_placed}
use Rattle.edit_entries.proofs.SelectedFacts.{selection_unset, unsets_in_order}
use Rattle.edit_entries.proofs.document.RawDocument.unset_fields.Goals as goal

pub all_unset_edits-requires : goal.all_unset_edits-requires
all_unset_edits-requires c =
    let d : Document = c.args.self.now in
    let read : IsDocument d = subst IsDocument c.self.view_is c.self.invariant in
    let listed : map entry_reading_of c.deref-2.result.now ≡ d.says.entries =
    ap (map entry_reading_of) c.deref-2.ensures.value ∙ ap (λ x. x.says.entries) c.self.view_is in
    record {
      placed =
          subst (λ t. AllByRecursion (HaveFieldsPlaced t) (map entry_reading_of c.deref-2.result.now)) (sym c.text-text.ensures)
          (subst (AllByRecursion (HaveFieldsPlaced d.text)) (sym listed) (fields_placed d read));
    }

pub edited_all-requires : goal.edited_all-requires
edited_all-requires c =
    let d : Document = c.args.self.now in
    let selected = is_in_set c.args.keys.now in
    let name = c.args.name.now in
    let read : IsDocument d = subst IsDocument c.self.view_is c.self.invariant in
    let utf8 : IsUtf8 d.text = subst IsUtf8 c.text-text.ensures c.text-text.utf8 in
    let listed : map entry_reading_of c.deref-2.result.now ≡ d.says.entries =
    ap (map entry_reading_of) c.deref-2.ensures.value ∙ ap (λ x. x.says.entries) c.self.view_is in
    let edits : map edit_of c.deref-3.result.now ≡ flat_map (unset_if_selected selected d.text name) d.says.entries =
    ap (map edit_of) c.deref-3.ensures.value ∙ c.in_ok-edits.ensures
    ∙ ap (λ t. flat_map (unset_if_selected selected t name) (map entry_reading_of c.deref-2.result.now)) c.text-text.ensures
    ∙ ap (flat_map (unset_if_selected selected d.text name)) listed in
    subst (λ t. AreEditsInOrder t 0 (map edit_of c.deref-3.result.now)) (sym c.text-text.ensures)
    (subst (AreEditsInOrder d.text 0) (sym edits) (unsets_in_order d selected name read utf8))

pub returns-clause-unset : goal.returns-clause-unset
returns-clause-unset c =
    let d : Document = c.args.self.now in
    let selected = is_in_set c.args.keys.now in
    let name = c.args.name.now in
    let read : IsDocument d = subst IsDocument c.self.view_is c.self.invariant in
    let utf8 : IsUtf8 d.text = subst IsUtf8 c.text-text.ensures c.text-text.utf8 in
    let first : map entry_reading_of c.deref.result.now ≡ d.says.entries =
    ap (map entry_reading_of) c.deref.ensures.value ∙ ap (λ x. x.says.entries) c.self.view_is in
    let listed : map entry_reading_of c.deref-2.result.now ≡ d.says.entries =
    ap (map entry_reading_of) c.deref-2.ensures.value ∙ ap (λ x. x.says.entries) c.self.view_is in
    let edits : map edit_of c.deref-3.result.now ≡ flat_map (unset_if_selected selected d.text name) d.says.entries =
    ap (map edit_of) c.deref-3.ensures.value ∙ c.in_ok-edits.ensures
    ∙ ap (λ t. flat_map (unset_if_selected selected t name) (map entry_reading_of c.deref-2.result.now)) c.text-text.ensures
    ∙ ap (flat_map (unset_if_selected selected d.text name)) listed in
    let left : list_any (would_be_empty selected name) d.says.entries ≡ false =
    ap (list_any (would_be_empty selected name)) (sym first) ∙ sym c.would_one_be_empty.ensures ∙ c.if-would_one_be_empty.false in
    selection_unset string_bytes d selected name c.in_ok-edited_all.field-0 read utf8 left
    (c.in_ok-edited_all.ensures ∙ ap (edited_all (map edit_of c.deref-3.result.now)) c.text-text.ensures
    ∙ ap (λ es. edited_all es d.text) edits)
