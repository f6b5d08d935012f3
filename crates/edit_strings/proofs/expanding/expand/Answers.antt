use Rattle.std.proofs.Common.{◌≡◌, length, map, sym, ap, ◌∙◌, subst}
use Rattle.std.specs.Str.{IsUtf8}
use Rattle.std.specs.String.{string_bytes}
use Rattle.bib_syntax.specs.Views.{entry_reading_of, field_of}
use Rattle.edit_entries.specs.Documents.{Document}
use Rattle.edit_entries.specs.Edits.{edited_all}
use Rattle.edit_entries.specs.EditList.{AreEditsInOrder, edit_of}
use Rattle.edit_strings.specs.Tables.{AreExpansionsCut, AreFrom, AreRows, BeginBetween, each_edits, entry_expansion, rows_of}
use Rattle.edit_strings.proofs.ExpandFacts.{expanded, expansions_cut, in_order, known_edits, known_rows}
use Rattle.edit_strings.proofs.OrderFacts.{document_from, file_between}
use Rattle.edit_strings.proofs.expanding.expand.Goals as goal
use Rattle.edit_strings.proofs.expanding.expand.Goals.{After-deref-6}

pub expansions-requires-clause-definitions : goal.expansions-requires-clause-definitions
expansions-requires-clause-definitions c =
    let defined : map field_of c.deref-3.result.now ≡ c.args.document.now.says.abbreviations =
    ap (map field_of) c.deref-3.ensures.value ∙ ap (λ f. f.abbreviations) c.raw-raw.ensures.says in
    let between = file_between c.raw-raw.ensures.read in
    (between.0, subst (BeginBetween 0 between.0) (sym defined) between.1)

pub expansions-requires-clause-entries : goal.expansions-requires-clause-entries
expansions-requires-clause-entries c =
    let entries : map entry_reading_of c.deref-5.result.now ≡ c.args.document.now.says.entries =
    ap (map entry_reading_of) c.deref-5.ensures.value ∙ ap (λ f. f.entries) c.raw-raw.ensures.says in
    subst (AreFrom 0) (sym entries) (document_from c.args.document.now c.raw-raw.ensures.read)

pub expansions-requires-clause-cut : goal.expansions-requires-clause-cut
expansions-requires-clause-cut c =
    let d : Document = c.args.document.now in
    let listed : map field_of c.deref-4.result.now ≡ d.says.abbreviations =
    ap (map field_of) c.deref-4.ensures.value ∙ ap (λ f. f.abbreviations) c.raw-raw.ensures.says in
    let defined : map field_of c.deref-3.result.now ≡ d.says.abbreviations =
    ap (map field_of) c.deref-3.ensures.value ∙ ap (λ f. f.abbreviations) c.raw-raw.ensures.says in
    let entries : map entry_reading_of c.deref-5.result.now ≡ d.says.entries =
    ap (map entry_reading_of) c.deref-5.ensures.value ∙ ap (λ f. f.entries) c.raw-raw.ensures.says in
    let rows = rows_of c.in_ok-rows.field-0.items in
    let known = known_rows c.deref-4.result.now d.says.abbreviations rows listed c.in_ok-rows.ensures in
    subst (λ t. AreExpansionsCut t (map field_of c.deref-3.result.now) rows (map entry_reading_of c.deref-5.result.now))
    (sym c.text.ensures)
    (subst (λ fs. AreExpansionsCut d.text fs rows (map entry_reading_of c.deref-5.result.now)) (sym defined)
    (subst (AreExpansionsCut d.text d.says.abbreviations rows) (sym entries) (expansions_cut d c.raw-raw.ensures.read rows known)))

-- the pieces of the definitions and the edits are those of the document
made : (c : After-deref-6)
    → AreRows c.args.document.now.says.abbreviations (length c.args.document.now.says.abbreviations) (rows_of c.in_ok-rows.field-0.items)
    × (map edit_of c.deref-6.result.now
    ≡ each_edits (entry_expansion c.args.document.now.text c.args.document.now.says.abbreviations (rows_of c.in_ok-rows.field-0.items))
    c.args.document.now.text c.args.document.now.says.entries)
made c =
    let d : Document = c.args.document.now in
    let listed : map field_of c.deref-4.result.now ≡ d.says.abbreviations =
    ap (map field_of) c.deref-4.ensures.value ∙ ap (λ f. f.abbreviations) c.raw-raw.ensures.says in
    let defined : map field_of c.deref-3.result.now ≡ d.says.abbreviations =
    ap (map field_of) c.deref-3.ensures.value ∙ ap (λ f. f.abbreviations) c.raw-raw.ensures.says in
    let entries : map entry_reading_of c.deref-5.result.now ≡ d.says.entries =
    ap (map entry_reading_of) c.deref-5.ensures.value ∙ ap (λ f. f.entries) c.raw-raw.ensures.says in
    let rows = rows_of c.in_ok-rows.field-0.items in (
      known_rows c.deref-4.result.now d.says.abbreviations rows listed c.in_ok-rows.ensures,
      known_edits d rows (map edit_of c.deref-6.result.now) c.text.result.now (map field_of c.deref-3.result.now)
          (map entry_reading_of c.deref-5.result.now) c.text.ensures defined entries
          (ap (map edit_of) c.deref-6.ensures.value ∙ c.in_ok-edits.ensures),
    )

pub edited_all-requires : goal.edited_all-requires
edited_all-requires c =
    let d : Document = c.args.document.now in
    let k = made ((goal.at.edited_all-requires c).After-deref-6) in
    subst (λ t. AreEditsInOrder t 0 (map edit_of c.deref-6.result.now)) (sym c.text-2.ensures)
    (subst (AreEditsInOrder d.text 0) (sym k.1)
    (in_order d c.raw-raw.ensures.read (rows_of c.in_ok-rows.field-0.items) k.0 (subst IsUtf8 c.text.ensures c.text.utf8)))

pub returns-clause-expanded : goal.returns-clause-expanded
returns-clause-expanded c =
    let d : Document = c.args.document.now in
    let k = made ((goal.at.returns-clause-expanded c).After-deref-6) in
    expanded d c.raw-raw.ensures.read (rows_of c.in_ok-rows.field-0.items) k.0 (subst IsUtf8 c.text.ensures c.text.utf8)
    (string_bytes c.in_ok-edited_all.field-0)
    (c.in_ok-edited_all.ensures ∙ ap (λ t. edited_all (map edit_of c.deref-6.result.now) t) c.text-2.ensures
    ∙ ap (λ es. edited_all es d.text) k.1)
