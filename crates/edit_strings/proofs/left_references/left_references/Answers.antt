use Rattle.std.proofs.Common.{◌≡◌, map, sym, ap, ◌∙◌, subst}
use Rattle.std.specs.List.{flat_map}
use Rattle.std.proofs.lemmas.Result.{IfOk-weaker}
use Rattle.bib_syntax.specs.Views.{entry_reading_of, field_of}
use Rattle.edit_entries.specs.NewKeys.{key_for, name_for}
use Rattle.edit_entries.specs.References.{new_reference}
use Rattle.edit_strings.specs.Left.{AreLeft, left_in}
use Rattle.edit_strings.specs.Tables.{AreFrom, BeginBetween, rows_of, written_by}
use Rattle.edit_strings.specs.Views.{lent_left}
use Rattle.edit_strings.proofs.ExpandFacts.{known_rows}
use Rattle.edit_strings.proofs.LeftFacts.{are_left}
use Rattle.edit_strings.proofs.OrderFacts.{document_from, file_between}
use Rattle.edit_strings.proofs.left_references.left_references.Goals as goal

pub left_in_entries-requires-clause-definitions : goal.left_in_entries-requires-clause-definitions
left_in_entries-requires-clause-definitions c =
    let defined : map field_of c.deref-3.result.now ≡ c.args.document.now.says.abbreviations =
    ap (map field_of) c.deref-3.ensures.value ∙ ap (λ f. f.abbreviations) c.raw-raw.ensures.says in
    let between = file_between c.raw-raw.ensures.read in
    (between.0, subst (BeginBetween 0 between.0) (sym defined) between.1)

pub left_in_entries-requires-clause-entries : goal.left_in_entries-requires-clause-entries
left_in_entries-requires-clause-entries c =
    let entries : map entry_reading_of c.deref-4.result.now ≡ c.args.document.now.says.entries =
    ap (map entry_reading_of) c.deref-4.ensures.value ∙ ap (λ f. f.entries) c.raw-raw.ensures.says in
    subst (AreFrom 0) (sym entries) (document_from c.args.document.now c.raw-raw.ensures.read)

pub returns : goal.returns
returns c =
    let says = c.args.document.now.says in
    let listed : map field_of c.deref.result.now ≡ says.abbreviations =
    ap (map field_of) c.deref.ensures.value ∙ ap (λ f. f.abbreviations) c.raw-raw.ensures.says in
    let named : map entry_reading_of c.deref-2.result.now ≡ says.entries =
    ap (map entry_reading_of) c.deref-2.ensures.value ∙ ap (λ f. f.entries) c.raw-raw.ensures.says in
    let defined : map field_of c.deref-3.result.now ≡ says.abbreviations =
    ap (map field_of) c.deref-3.ensures.value ∙ ap (λ f. f.abbreviations) c.raw-raw.ensures.says in
    let entries : map entry_reading_of c.deref-4.result.now ≡ says.entries =
    ap (map entry_reading_of) c.deref-4.ensures.value ∙ ap (λ f. f.entries) c.raw-raw.ensures.says in
    let rows = rows_of c.in_ok-rows.field-0.items in
    let known = known_rows c.deref.result.now says.abbreviations rows listed c.in_ok-rows.ensures in
    IfOk-weaker c.left_in_entries.result
    (λ left.
    lent_left left.items
    ≡ flat_map (left_in (name_for c.in_ok-new.field-0) (written_by (map field_of c.deref-3.result.now) rows))
    (map entry_reading_of c.deref-4.result.now))
    (λ left. AreLeft says (key_for c.args.keys) (lent_left left.items))
    (λ left are.
    are_left says rows known (key_for c.args.keys) (name_for c.in_ok-new.field-0)
    (λ field name.
    c.in_ok-new.ensures.names field name ∙ ap (λ es. new_reference es (key_for c.args.keys) field name) named)
    (lent_left left.items)
    (are
    ∙ ap (λ fs. flat_map (left_in (name_for c.in_ok-new.field-0) (written_by fs rows)) (map entry_reading_of c.deref-4.result.now)) defined
    ∙ ap (flat_map (left_in (name_for c.in_ok-new.field-0) (written_by says.abbreviations rows))) entries))
    c.left_in_entries.ensures
