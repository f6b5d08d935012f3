use Rattle.std.proofs.Common.{◌≡◌, ◌∙◌, ap, map, subst, sym}
use Rattle.std.specs.Str.{IsUtf8}
use Rattle.std.specs.String.{string_bytes}
use Rattle.std.proofs.lemmas.Result.{err_from_is_err_and}
use Rattle.bib_collections.specs.Graph.{HasNoCycle}
use Rattle.bib_syntax.specs.Views.{entry_reading_of}
use Rattle.edit_entries.specs.Changes.{IsReadPlaceless, edits_of_entries, file_changed, text_changed}
use Rattle.edit_entries.specs.Documents.{Document}
use Rattle.edit_entries.specs.EditList.{AreEditsInOrder, edit_of}
use Rattle.edit_entries.specs.Edits.{edited_all}
use Rattle.edit_entries.proofs.ChangesFacts.{changed_read, changes_in_order}
use Rattle.edit_resolve.specs.Parents.{parent_graph}
use Rattle.edit_resolve.specs.Resolved.{IsResolveError, resolution}
use Rattle.edit_resolve.specs.Working.{AreFieldsCut, readings}
use Rattle.edit_resolve.proofs.ResolvedFacts.{document_cut, resolution_can}
use Rattle.edit_resolve.proofs.resolving.resolve.Goals as goal

pub returns-in_err-fields-clause-refused : goal.returns-in_err-fields-clause-refused
returns-in_err-fields-clause-refused c =
    let d : Document = c.args.document.now in
    let es : readings c.in_ok-file.file ≡ d.says.entries =
    ap (map entry_reading_of) (c.in_ok-file.ensures.entries ∙ c.deref.ensures.value) ∙ ap (λ f. f.entries) c.raw-raw.ensures.says in
    let p = err_from_is_err_and c.from_residual-in_err-fields.result c.from_residual-in_err-fields.ensures.1 in
    rw (p.1, p.2) (subst (λ l. IsResolveError l c.in_err-fields.field-0.0) es c.in_err-fields.ensures.refused)

pub edits-requires-clause-cut : goal.edits-requires-clause-cut
edits-requires-clause-cut c =
    let d : Document = c.args.document.now in
    let es : readings c.in_ok-file.file ≡ d.says.entries =
    ap (map entry_reading_of) (c.in_ok-file.ensures.entries ∙ c.deref.ensures.value) ∙ ap (λ f. f.entries) c.raw-raw.ensures.says in
    subst (λ t. AreFieldsCut t (readings c.in_ok-file.file)) (sym c.text.ensures)
    (subst (AreFieldsCut d.text) (sym es) (document_cut d c.raw-raw.ensures.read))

pub edited_all-requires : goal.edited_all-requires
edited_all-requires c =
    let d : Document = c.args.document.now in
    let es : readings c.in_ok-file.file ≡ d.says.entries =
    ap (map entry_reading_of) (c.in_ok-file.ensures.entries ∙ c.deref.ensures.value) ∙ ap (λ f. f.entries) c.raw-raw.ensures.says in
    let edits : map edit_of c.deref-5.result.now ≡ edits_of_entries (resolution d.text d.says.entries) d.text d.says.entries =
    ap (map edit_of) c.deref-5.ensures.value ∙ c.in_ok-edits.ensures
    ∙ ap (λ t. edits_of_entries (resolution t (readings c.in_ok-file.file)) t (readings c.in_ok-file.file)) c.text.ensures
    ∙ ap (λ l. edits_of_entries (resolution d.text l) d.text l) es in
    subst (λ t. AreEditsInOrder t 0 (map edit_of c.deref-5.result.now)) (sym c.text-2.ensures)
    (subst (AreEditsInOrder d.text 0) (sym edits)
    (changes_in_order d (resolution d.text d.says.entries) c.raw-raw.ensures.read (subst IsUtf8 c.text.ensures c.text.utf8)))

pub returns-clause-resolved : goal.returns-clause-resolved
returns-clause-resolved c =
    let d : Document = c.args.document.now in
    let es : readings c.in_ok-file.file ≡ d.says.entries =
    ap (map entry_reading_of) (c.in_ok-file.ensures.entries ∙ c.deref.ensures.value) ∙ ap (λ f. f.entries) c.raw-raw.ensures.says in
    let edits : map edit_of c.deref-5.result.now ≡ edits_of_entries (resolution d.text d.says.entries) d.text d.says.entries =
    ap (map edit_of) c.deref-5.ensures.value ∙ c.in_ok-edits.ensures
    ∙ ap (λ t. edits_of_entries (resolution t (readings c.in_ok-file.file)) t (readings c.in_ok-file.file)) c.text.ensures
    ∙ ap (λ l. edits_of_entries (resolution d.text l) d.text l) es in
    let text : string_bytes c.in_ok-edited_all.field-0 ≡ text_changed (resolution d.text d.says.entries) d =
    c.in_ok-edited_all.ensures ∙ ap (λ t. edited_all (map edit_of c.deref-5.result.now) t) c.text-2.ensures
    ∙ ap (λ l. edited_all l d.text) edits in
    record {
      is = text;
      read =
          subst (IsReadPlaceless (file_changed (resolution d.text d.says.entries) d.says)) (sym text)
          (changed_read d (resolution d.text d.says.entries) c.raw-raw.ensures.read (subst IsUtf8 c.text.ensures c.text.utf8)
          (resolution_can d c.raw-raw.ensures.read));
    }

pub returns-clause-no_cycle : goal.returns-clause-no_cycle
returns-clause-no_cycle c =
    let d : Document = c.args.document.now in
    let es : readings c.in_ok-file.file ≡ d.says.entries =
    ap (map entry_reading_of) (c.in_ok-file.ensures.entries ∙ c.deref.ensures.value) ∙ ap (λ f. f.entries) c.raw-raw.ensures.says in
    subst (λ l. HasNoCycle (parent_graph l)) es c.in_ok-fields.ensures.no_cycle
