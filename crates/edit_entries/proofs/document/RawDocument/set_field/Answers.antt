use Rattle.std.proofs.Common.{◌≡◌, map, sym, ap, ◌∙◌, subst}
use Rattle.std.specs.Prelude.{IfErr, IfOk}
use Rattle.std.specs.String.{string_bytes}
use Rattle.std.specs.Str.{IsUtf8}
use Rattle.bib_syntax.specs.Reading.{EntryReading}
use Rattle.bib_syntax.specs.Views.{entry_reading_of, field_of}
use Rattle.edit_entries.specs.Documents.{Document, IsDocument}
use Rattle.edit_entries.specs.SetTexts.{CanBeSetIn, IsSetText, SetTextIsRefused}
use Rattle.edit_entries.specs.Setting.{value_of}
use Rattle.edit_entries.proofs.SetFacts.{all_set, all_refused, has_entry, set_asked}
use Rattle.edit_entries.proofs.document.RawDocument.set_field.Goals as goal
use Rattle.edit_entries.proofs.document.RawDocument.set_field.Goals.{After-with_field_set}

pub with_field_set-requires : goal.with_field_set-requires
with_field_set-requires c =
    let d : Document = c.args.self.now in
    let read : IsDocument d = subst IsDocument c.self.view_is c.self.invariant in
    let utf8 : IsUtf8 d.text = subst IsUtf8 c.text-text.ensures c.text-text.utf8 in
    let e : EntryReading = entry_reading_of c.in-Some.entry.now in
    let found = c.in-Some.ensures in
    let listed : map entry_reading_of c.deref.result.now ≡ d.says.entries =
    ap (map entry_reading_of) c.deref.ensures.value ∙ ap (λ x. x.says.entries) c.self.view_is in
    let entry = has_entry d (map entry_reading_of c.deref.result.now) c.args.key.now found.0 e listed found.1 found.2 in
    subst (λ t. CanBeSetIn t e c.args.name.now (value_of c.args.value)) (sym c.text-text.ensures)
    (set_asked d found.0 e c.args.name.now (value_of c.args.value) read utf8 entry.here)

definitions_are : (c : After-with_field_set) → map field_of c.deref-in-Some.result.now ≡ c.args.self.now.says.abbreviations
definitions_are c = ap (map field_of) c.deref-in-Some.ensures.value ∙ ap (λ x. x.says.abbreviations) c.self.view_is

pub returns-in-Some-clause-set : goal.returns-in-Some-clause-set
returns-in-Some-clause-set c =
    let d : Document = c.args.self.now in
    let read : IsDocument d = subst IsDocument c.self.view_is c.self.invariant in
    let utf8 : IsUtf8 d.text = subst IsUtf8 c.text-text.ensures c.text-text.utf8 in
    let e : EntryReading = entry_reading_of c.in-Some.entry.now in
    let found = c.in-Some.ensures in
    let listed : map entry_reading_of c.deref.result.now ≡ d.says.entries =
    ap (map entry_reading_of) c.deref.ensures.value ∙ ap (λ x. x.says.entries) c.self.view_is in
    let entry = has_entry d (map entry_reading_of c.deref.result.now) c.args.key.now found.0 e listed found.1 found.2 in
    all_set string_bytes c.with_field_set.result d c.args.key.now c.args.name.now (value_of c.args.value) found.0 e read utf8 entry
    (subst
    (λ fs. IfOk c.with_field_set.result (λ new. IsSetText fs d.text e c.args.name.now (value_of c.args.value) (string_bytes new)))
    (definitions_are c)
    (subst
    (λ t. IfOk c.with_field_set.result (λ new. IsSetText (map field_of c.deref-in-Some.result.now) t e c.args.name.now
    (value_of c.args.value)
    (string_bytes new))) c.text-text.ensures c.with_field_set.ensures.set))

pub returns-in-Some-clause-refused : goal.returns-in-Some-clause-refused
returns-in-Some-clause-refused c =
    let d : Document = c.args.self.now in
    let e : EntryReading = entry_reading_of c.in-Some.entry.now in
    let found = c.in-Some.ensures in
    let listed : map entry_reading_of c.deref.result.now ≡ d.says.entries =
    ap (map entry_reading_of) c.deref.ensures.value ∙ ap (λ x. x.says.entries) c.self.view_is in
    let entry = has_entry d (map entry_reading_of c.deref.result.now) c.args.key.now found.0 e listed found.1 found.2 in
    all_refused c.with_field_set.result d c.args.key.now c.args.name.now (value_of c.args.value) found.0 e entry
    (subst (λ fs. IfErr c.with_field_set.result (SetTextIsRefused fs e c.args.name.now (value_of c.args.value))) (definitions_are c)
    c.with_field_set.ensures.refused)
