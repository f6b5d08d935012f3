use Rattle.std.proofs.Common.{◌≡◌, map, ap, ◌∙◌, subst}
use Rattle.std.specs.Prelude.{IfOk}
use Rattle.bib_syntax.specs.Views.{entry_reading_of, field_of}
use Rattle.edit_entries.specs.Documents.{Document}
use Rattle.edit_convert.specs.Conversions.{defines_month}
use Rattle.edit_convert.specs.Notes.{entry_notes, indexed}
use Rattle.edit_convert.proofs.notes.notes.Goals as goal

pub returns : goal.returns
returns c =
    let d : Document = c.args.document.now in
    let defines : c.defines_month-defines.result ≡ defines_month d.says.abbreviations =
    c.defines_month-defines.ensures ∙ ap (λ ps. defines_month (map field_of ps)) c.deref.ensures.value
    ∙ ap (λ f. defines_month f.abbreviations) c.raw-raw.ensures.says in
    let entries : map entry_reading_of c.deref-2.result.now ≡ d.says.entries =
    ap (map entry_reading_of) c.deref-2.ensures.value ∙ ap (λ f. f.entries) c.raw-raw.ensures.says in
    subst (λ b. IfOk c.entry_notes.result (λ notes. notes.items ≡ indexed (entry_notes c.args.dialect b d.text) 0 d.says.entries)) defines
    (subst
    (λ t.
    IfOk c.entry_notes.result
    (λ notes.
    notes.items ≡ indexed (entry_notes c.args.dialect c.defines_month-defines.result t) 0 d.says.entries))
    c.text.ensures
    (subst
    (λ es.
    IfOk c.entry_notes.result
    (λ notes.
    notes.items
    ≡ indexed (entry_notes c.args.dialect c.defines_month-defines.result c.text.result.now) 0 es))
    entries c.entry_notes.ensures))
