use Rattle.std.proofs.Common.{◌≡◌, map, sym, ap, ◌∙◌, subst}
use Rattle.std.specs.Prelude.{IfOk}
use Rattle.std.specs.Str.{IsUtf8}
use Rattle.std.specs.String.{string_bytes}
use Rattle.bib_syntax.specs.Views.{entry_reading_of}
use Rattle.edit_entries.specs.Documents.{Document}
use Rattle.edit_entries.specs.Edits.{edited_all}
use Rattle.edit_entries.specs.EditList.{AreEditsInOrder, edit_of}
use Rattle.edit_strings.specs.Tables.{AreAllFieldsCut, entry_edits}
use Rattle.edit_strings.proofs.CollectFacts.{all_cut}
use Rattle.edit_accents.specs.Recoded.{recoding}
use Rattle.edit_accents.proofs.RecodedFacts.{in_order, recoded_answer}
use Rattle.edit_accents.proofs.recoding.recode.Goals as goal

pub edits-requires : goal.edits-requires
edits-requires c =
    let d : Document = c.args.document.now in
    let entries : map entry_reading_of c.deref.result.now ≡ d.says.entries =
    ap (map entry_reading_of) c.deref.ensures.value ∙ ap (λ f. f.entries) c.raw.ensures.says in
    subst (λ t. AreAllFieldsCut t (map entry_reading_of c.deref.result.now)) (sym c.text.ensures)
    (subst (AreAllFieldsCut d.text) (sym entries) (all_cut d c.raw.ensures.read))

pub edited_all-requires : goal.edited_all-requires
edited_all-requires c =
    let d : Document = c.args.document.now in
    let entries : map entry_reading_of c.deref.result.now ≡ d.says.entries =
    ap (map entry_reading_of) c.deref.ensures.value ∙ ap (λ f. f.entries) c.raw.ensures.says in
    let edits : map edit_of c.deref-2.result.now ≡ entry_edits (recoding c.args.form d.text) d.text d.says.entries =
    ap (map edit_of) c.deref-2.ensures.value ∙ c.in_ok-edits.ensures
    ∙ ap (λ t. entry_edits (recoding c.args.form t) t (map entry_reading_of c.deref.result.now)) c.text.ensures
    ∙ ap (entry_edits (recoding c.args.form d.text) d.text) entries in
    subst (λ t. AreEditsInOrder t 0 (map edit_of c.deref-2.result.now)) (sym c.text-2.ensures)
    (subst (AreEditsInOrder d.text 0) (sym edits) (in_order c.args.form d c.raw.ensures.read (subst IsUtf8 c.text.ensures c.text.utf8)))

pub returns : goal.returns
returns c =
    let d : Document = c.args.document.now in
    let entries : map entry_reading_of c.deref.result.now ≡ d.says.entries =
    ap (map entry_reading_of) c.deref.ensures.value ∙ ap (λ f. f.entries) c.raw.ensures.says in
    let edits : map edit_of c.deref-2.result.now ≡ entry_edits (recoding c.args.form d.text) d.text d.says.entries =
    ap (map edit_of) c.deref-2.ensures.value ∙ c.in_ok-edits.ensures
    ∙ ap (λ t. entry_edits (recoding c.args.form t) t (map entry_reading_of c.deref.result.now)) c.text.ensures
    ∙ ap (entry_edits (recoding c.args.form d.text) d.text) entries in
    recoded_answer c.args.form string_bytes c.edited_all.result d c.raw.ensures.read (subst IsUtf8 c.text.ensures c.text.utf8)
    (subst (λ es. IfOk c.edited_all.result (λ new. string_bytes new ≡ edited_all es d.text)) edits
    (subst (λ t. IfOk c.edited_all.result (λ new. string_bytes new ≡ edited_all (map edit_of c.deref-2.result.now) t))
    c.text-2.ensures c.edited_all.ensures))
