use Rattle.std.proofs.Common.{◌≡◌, map, sym, ap, ◌∙◌, subst}
use Rattle.std.specs.Prelude.{IfOk}
use Rattle.std.specs.List.{AllByRecursion}
use Rattle.std.specs.Str.{IsUtf8}
use Rattle.std.specs.String.{string_bytes}
use Rattle.bib_syntax.specs.Views.{entry_reading_of, field_of}
use Rattle.edit_entries.specs.Documents.{Document}
use Rattle.edit_entries.specs.Edits.{edited_all}
use Rattle.edit_entries.specs.EditList.{AreEditsInOrder, edit_of}
use Rattle.edit_entries.proofs.FieldEditFacts.{fields_placed}
use Rattle.edit_entries.specs.Changes.{edits_of_entries}
use Rattle.edit_convert.specs.Conversions.{conversion, defines_month, document_conversion}
use Rattle.edit_entries.proofs.ChangesFacts.{changed_answer, changes_in_order}
use Rattle.edit_convert.specs.Tables.{AreFieldsInText}
use Rattle.edit_convert.proofs.ConvertedFacts.{conversion_can, fields_in_text}
use Rattle.edit_convert.proofs.converting.convert.Goals as goal
use Rattle.edit_convert.proofs.converting.convert.Goals.{After-deref-3}

pub edits-requires : goal.edits-requires
edits-requires c =
    let d : Document = c.args.document.now in
    let entries : map entry_reading_of c.deref-2.result.now ≡ d.says.entries =
    ap (map entry_reading_of) c.deref-2.ensures.value ∙ ap (λ f. f.entries) c.raw-raw.ensures.says in
    subst (λ t. AllByRecursion (λ e. AreFieldsInText t e.fields) (map entry_reading_of c.deref-2.result.now))
    (sym c.text-text.ensures)
    (subst (λ es. AllByRecursion (λ e. AreFieldsInText d.text e.fields) es) (sym entries) (fields_in_text d c.raw-raw.ensures.read))

-- the edits are those of the document's entries
made : (c : After-deref-3) → map edit_of c.deref-3.result.now
    ≡ edits_of_entries (document_conversion c.args.dialect c.args.document.now) c.args.document.now.text c.args.document.now.says.entries
made c =
    let d : Document = c.args.document.now in
    let defines : c.defines_month-defines.result ≡ defines_month d.says.abbreviations =
    c.defines_month-defines.ensures ∙ ap (λ ps. defines_month (map field_of ps)) c.deref.ensures.value
    ∙ ap (λ f. defines_month f.abbreviations) c.raw-raw.ensures.says in
    let entries : map entry_reading_of c.deref-2.result.now ≡ d.says.entries =
    ap (map entry_reading_of) c.deref-2.ensures.value ∙ ap (λ f. f.entries) c.raw-raw.ensures.says in
    ap (map edit_of) c.deref-3.ensures.value ∙ c.in_ok-edits.ensures
    ∙ ap
    (λ b.
    edits_of_entries (conversion c.args.dialect b c.text-text.result.now) c.text-text.result.now
    (map entry_reading_of c.deref-2.result.now))
    defines
    ∙ ap
    (λ t.
    edits_of_entries (conversion c.args.dialect (defines_month d.says.abbreviations) t) t
    (map entry_reading_of c.deref-2.result.now)) c.text-text.ensures
    ∙ ap (edits_of_entries (document_conversion c.args.dialect d) d.text) entries

pub edited_all-requires : goal.edited_all-requires
edited_all-requires c =
    let d : Document = c.args.document.now in
    subst (λ t. AreEditsInOrder t 0 (map edit_of c.deref-3.result.now)) (sym c.text-text.ensures)
    (subst (AreEditsInOrder d.text 0) (sym (made ((goal.at.edited_all-requires c).After-deref-3)))
    (changes_in_order d (document_conversion c.args.dialect d) c.raw-raw.ensures.read (subst IsUtf8 c.text-text.ensures c.text-text.utf8)))

pub returns : goal.returns
returns c =
    let d : Document = c.args.document.now in
    changed_answer string_bytes c.edited_all.result d (document_conversion c.args.dialect d) c.raw-raw.ensures.read
    (subst IsUtf8 c.text-text.ensures c.text-text.utf8)
    (conversion_can c.args.dialect (defines_month d.says.abbreviations) d.text d.says.entries (fields_placed d c.raw-raw.ensures.read))
    (subst (λ es. IfOk c.edited_all.result (λ new. string_bytes new ≡ edited_all es d.text)) (made ((goal.at.returns c).After-deref-3))
    (subst
    (λ t. IfOk c.edited_all.result (λ new. string_bytes new ≡ edited_all (map edit_of c.deref-3.result.now) t))
    c.text-text.ensures c.edited_all.ensures))
