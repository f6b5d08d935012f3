use Rattle.std.proofs.Common.{◌≡◌, false, List, ℕ, map, sym, ap, ◌∙◌, subst}
use Rattle.std.specs.Prelude.{slice_get, Some}
use Rattle.std.specs.List.{AllByRecursion}
use Rattle.std.specs.String.{string_bytes}
use Rattle.std.specs.Str.{IsUtf8}
use Rattle.bib_syntax.specs.Reading.{EntryReading, FieldReading}
use Rattle.bib_syntax.specs.Views.{entry_reading_of, field_of}
use Rattle.edit_entries.specs.Changes.{IsTrimmed}
use Rattle.edit_entries.specs.Documents.{Document, IsDocument, HasEntry, have_only}
use Rattle.edit_entries.specs.EditList.{AreEditsInOrder}
use Rattle.edit_entries.specs.Edits.{edited_all}
use Rattle.edit_entries.specs.Placed.{IsPlaced}
use Rattle.edit_entries.specs.Unset.{unset_edits}
use Rattle.edit_entries.proofs.AllFacts.{all_found}
use Rattle.edit_entries.proofs.SetFacts.{has_entry}
use Rattle.edit_entries.proofs.TrimmedFacts.{trimmed_known}
use Rattle.edit_entries.proofs.UnsetEntryFacts.{field_unset, unset_ordered}
use Rattle.edit_entries.proofs.ValueFacts.{field_placed}
use Rattle.edit_entries.proofs.document.RawDocument.unset_field.Goals as goal
use Rattle.edit_entries.proofs.document.RawDocument.unset_field.Goals.{In-Some}

-- the entry is the first one with the key; its values may be cut out, and only white space is after their trimmed ends
record Known (d : Document) (key : List ℕ) (e : EntryReading) : Type 0 where
  index : ℕ
  read : IsDocument d
  entry : HasEntry d key index e
  placed : (j : ℕ) (f : FieldReading) → slice_get e.fields j ≡ Some f → IsPlaced d.text f
  trimmed : (j : ℕ) (f : FieldReading) → slice_get e.fields j ≡ Some f → IsTrimmed d.text f

known : (c : In-Some) → Known c.args.self.now c.args.key.now (entry_reading_of c.in-Some.entry.now)
known c =
    let d : Document = c.args.self.now in
    let read : IsDocument d = subst IsDocument c.self.view_is c.self.invariant in
    let utf8 : IsUtf8 d.text = subst IsUtf8 c.text-text.ensures c.text-text.utf8 in
    let e : EntryReading = entry_reading_of c.in-Some.entry.now in
    let found = c.in-Some.ensures in
    let listed : map entry_reading_of c.deref.result.now ≡ d.says.entries =
    ap (map entry_reading_of) c.deref.ensures.value ∙ ap (λ x. x.says.entries) c.self.view_is in
    let entry = has_entry d (map entry_reading_of c.deref.result.now) c.args.key.now found.0 e listed found.1 found.2 in
    let placed : (j : ℕ) (f : FieldReading) → slice_get e.fields j ≡ Some f → IsPlaced d.text f =
    λ j f there. field_placed d found.0 e j f read entry.here there in
    record {
      index = found.0;
      read = read;
      entry = entry;
      placed = placed;
      trimmed = λ j f there. trimmed_known d.text f utf8 (placed j f there);
    }

pub without_fields-requires-clause-placed : goal.without_fields-requires-clause-placed
without_fields-requires-clause-placed c =
    let k = known ((goal.at.without_fields-requires-clause-placed c).In-Some) in
    let e : EntryReading = entry_reading_of c.in-Some.entry.now in
    subst (λ t. AllByRecursion (IsPlaced t) e.fields) (sym c.text-text.ensures)
    (all_found (IsPlaced c.args.self.now.text) e.fields k.placed)

pub without_fields-requires-clause-ordered : goal.without_fields-requires-clause-ordered
without_fields-requires-clause-ordered c =
    let k = known ((goal.at.without_fields-requires-clause-ordered c).In-Some) in
    let e : EntryReading = entry_reading_of c.in-Some.entry.now in
    subst (λ t. AreEditsInOrder t 0 (unset_edits t c.args.name.now e)) (sym c.text-text.ensures)
    (unset_ordered c.args.self.now c.args.name.now k.index e k.read k.trimmed k.entry.here)

pub returns-clause-unset : goal.returns-clause-unset
returns-clause-unset c =
    let k = known ((goal.at.returns-clause-unset c).In-Some) in
    let d : Document = c.args.self.now in
    let e : EntryReading = entry_reading_of c.in-Some.entry.now in
    let left : have_only c.args.name.now e.fields ≡ false =
    ap (λ fs. have_only c.args.name.now (map field_of fs)) (sym c.deref-2.ensures.value) ∙ sym c.have_only.ensures
    ∙ c.if-have_only.false in
    let new = c.in_ok-without_fields.field-0 in
    field_unset string_bytes d c.args.key.now c.args.name.now k.index e new k.read k.trimmed k.entry left
    (subst (λ t. string_bytes new ≡ edited_all (unset_edits t c.args.name.now e) t) c.text-text.ensures c.in_ok-without_fields.ensures)
