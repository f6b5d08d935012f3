use Rattle.std.proofs.Common.{◌≡◌, length, map, sym, ap, ◌∙◌, subst}
use Rattle.std.specs.List.{AllByRecursion}
use Rattle.std.proofs.lemmas.Result.{err_from_is_err_and}
use Rattle.bib_queries.specs.Sets.{is_in_set}
use Rattle.std.specs.Str.{IsUtf8}
use Rattle.std.specs.String.{string_bytes}
use Rattle.bib_syntax.specs.Views.{entry_reading_of, field_of}
use Rattle.edit_entries.specs.Changes.{IsReadPlaceless, edits_of_entries, file_changed, text_changed}
use Rattle.edit_entries.specs.Documents.{Document, IsDocument}
use Rattle.edit_entries.specs.EditList.{AreEditsInOrder, edit_of}
use Rattle.edit_entries.specs.Edits.{edited_all}
use Rattle.edit_entries.specs.FieldEdits.{HasFitValue, first_start, selected_edited}
use Rattle.edit_entries.specs.FieldTexts.{EditTextIsRefused, HaveFieldsPlaced}
use Rattle.edit_entries.proofs.ChangesFacts.{changed_read, changes_in_order}
use Rattle.edit_entries.proofs.FieldEditFacts.{edit_refused, fields_placed, selected_can}
use Rattle.edit_entries.proofs.document.RawDocument.edit_fields.Goals as goal
use Rattle.edit_entries.proofs.document.RawDocument.edit_fields.Goals.{After-deref-2, After-deref-5}

pub field_edits-requires-clause-placed : goal.field_edits-requires-clause-placed
field_edits-requires-clause-placed c =
    let d : Document = c.args.self.now in
    let read : IsDocument d = subst IsDocument c.self.view_is c.self.invariant in
    let listed : map entry_reading_of c.deref-3.result.now ≡ d.says.entries =
    ap (map entry_reading_of) c.deref-3.ensures.value ∙ ap (λ x. x.says.entries) c.self.view_is in
    subst (λ t. AllByRecursion (HaveFieldsPlaced t) (map entry_reading_of c.deref-3.result.now)) (sym c.text-text.ensures)
    (subst (AllByRecursion (HaveFieldsPlaced d.text)) (sym listed) (fields_placed d read))

-- the edits are those of the document's entries
made : (c : After-deref-5) → map edit_of c.deref-5.result.now
    ≡ edits_of_entries (selected_edited c.args.self.now.text c.args.keys.now c.args.edit.now) c.args.self.now.text
    c.args.self.now.says.entries
made c =
    let d : Document = c.args.self.now in
    let entries = map entry_reading_of c.deref-3.result.now in
    ap (map edit_of) c.deref-5.ensures.value ∙ c.in_ok-edits.ensures
    ∙ ap (λ t. edits_of_entries (selected_edited t c.args.keys.now c.args.edit.now) t entries) c.text-text.ensures
    ∙ ap (edits_of_entries (selected_edited d.text c.args.keys.now c.args.edit.now) d.text)
    (ap (map entry_reading_of) c.deref-3.ensures.value ∙ ap (λ x. x.says.entries) c.self.view_is)

-- the definitions are those of the document, and the byte offset is that of the first selected entry, or else the end of the text
defined : (c : After-deref-2) → (map field_of c.deref-2.result.now ≡ c.args.self.now.says.abbreviations)
    × (c.first_start-at.result ≡ first_start (is_in_set c.args.keys.now) (length c.args.self.now.text) c.args.self.now.says.entries)
defined c =
    let d : Document = c.args.self.now in (
      ap (map field_of) c.deref-2.ensures.value ∙ ap (λ x. x.says.abbreviations) c.self.view_is,
      c.first_start-at.ensures
          ∙ ap (λ t. first_start (is_in_set c.args.keys.now) (length t) (map entry_reading_of c.deref.result.now)) c.text-text.ensures
          ∙ ap (first_start (is_in_set c.args.keys.now) (length d.text))
          (ap (map entry_reading_of) c.deref.ensures.value ∙ ap (λ x. x.says.entries) c.self.view_is),
    )

pub edited_all-requires : goal.edited_all-requires
edited_all-requires c =
    let d : Document = c.args.self.now in
    let read : IsDocument d = subst IsDocument c.self.view_is c.self.invariant in
    let utf8 : IsUtf8 d.text = subst IsUtf8 c.text-text.ensures c.text-text.utf8 in
    let changes = selected_edited d.text c.args.keys.now c.args.edit.now in
    subst (λ t. AreEditsInOrder t 0 (map edit_of c.deref-5.result.now)) (sym c.text-text.ensures)
    (subst (AreEditsInOrder d.text 0) (sym (made ((goal.at.edited_all-requires c).After-deref-5))) (changes_in_order d changes read utf8))

pub returns-clause-edited : goal.returns-clause-edited
returns-clause-edited c =
    let d : Document = c.args.self.now in
    let read : IsDocument d = subst IsDocument c.self.view_is c.self.invariant in
    let utf8 : IsUtf8 d.text = subst IsUtf8 c.text-text.ensures c.text-text.utf8 in
    let changes = selected_edited d.text c.args.keys.now c.args.edit.now in
    let is : string_bytes c.in_ok-edited_all.field-0 ≡ text_changed changes d =
    c.in_ok-edited_all.ensures ∙ ap (edited_all (map edit_of c.deref-5.result.now)) c.text-text.ensures
    ∙ ap (λ es. edited_all es d.text) (made ((goal.at.returns-clause-edited c).After-deref-5)) in
    let can =
    selected_can d.text (map field_of c.deref-2.result.now) c.first_start-at.result c.args.keys.now c.args.edit.now d.says.entries
    (fields_placed d read) c.in_ok-written.ensures.name c.in_ok-written.ensures.value in
    record { is = is; read = subst (IsReadPlaceless (file_changed changes d.says)) (sym is) (changed_read d changes read utf8 can) }

pub returns-clause-value : goal.returns-clause-value
returns-clause-value c =
    let k = defined ((goal.at.returns-clause-value c).After-deref-2) in
    subst (λ n. HasFitValue c.args.self.now.says.abbreviations n c.args.edit.now) k.1
    (subst (λ fs. HasFitValue fs c.first_start-at.result c.args.edit.now) k.0 c.in_ok-written.ensures.value)

pub returns-in_err-written-clause-refused : goal.returns-in_err-written-clause-refused
returns-in_err-written-clause-refused c =
    let d : Document = c.args.self.now in
    let p = err_from_is_err_and c.from_residual.result c.from_residual.ensures.1 in
    let k = defined ((goal.at.returns-in_err-written-clause-refused c).After-deref-2) in
    let why : EditTextIsRefused d.says.abbreviations (first_start (is_in_set c.args.keys.now)
    (length d.text) d.says.entries) c.args.edit.now
    c.in_err-written.field-0.0 =
    subst (λ n. EditTextIsRefused d.says.abbreviations n c.args.edit.now c.in_err-written.field-0.0) k.1
    (subst (λ fs. EditTextIsRefused fs c.first_start-at.result c.args.edit.now c.in_err-written.field-0.0) k.0
    c.in_err-written.ensures.refused) in
    rw (p.1, p.2) (edit_refused d (is_in_set c.args.keys.now) c.args.edit.now c.in_err-written.field-0.0 why)
