use Rattle.std.proofs.Common.{◌≡◌, ◌++◌, map, ap, ◌∙◌, subst}
use Rattle.std.specs.Prelude.{OnOk}
use Rattle.bib_syntax.specs.Reading.{EntryReading}
use Rattle.bib_syntax.specs.Views.{entry_reading_of, field_of}
use Rattle.edit_entries.specs.EditList.{edit_of}
use Rattle.edit_convert.specs.Conversions.{divides_date, free_names, joined_date, missing_type, other_names, printed_type, keeps_one, type_for}
use Rattle.edit_convert.specs.Tables.{change_edits, replacement_by, lent_text, printed_of}
use Rattle.edit_convert.proofs.EntryEditFacts.{IsFound, entry_edited}
use Rattle.edit_convert.proofs.converting.push_entry_edits.Goals as goal

pub returns : goal.returns
returns c =
    let e : EntryReading = entry_reading_of c.args.entry.now in
    let dialect = c.args.dialect in
    let kind = c.in_ok-kind.kind in
    let changes = c.in_ok-changes.changes in
    let missing = lent_text c.missing_type-missing.result in
    let found : IsFound dialect c.args.defines c.args.text.now e kind changes =
    record {
      kind_is = c.in_ok-kind.ensures.ok;
      defines_is = c.in_ok-changes.ensures.defines;
      names = c.in_ok-changes.ensures.names
          ∙ ap (λ fs. free_names (map field_of fs) (other_names dialect kind)) c.deref.ensures.value;
      printed = c.in_ok-changes.ensures.printed ∙ ap (λ fs. printed_type dialect kind (map field_of fs)) c.deref.ensures.value;
      divides = c.in_ok-changes.ensures.divides ∙ ap (λ fs. divides_date dialect (map field_of fs)) c.deref.ensures.value;
      joined = c.in_ok-changes.ensures.joined
          ∙ ap (λ fs. joined_date dialect c.args.defines c.args.text.now (map field_of fs)) c.deref.ensures.value;
    } in
    let missing_is : missing ≡ missing_type dialect kind e.fields =
    c.missing_type-missing.ensures ∙ ap (λ fs. missing_type dialect kind (map field_of fs)) c.deref-2.ensures.value in
    let other_is : lent_text c.in_ok-other.other
    ≡ type_for dialect kind (printed_of changes.printed) missing (keeps_one (replacement_by changes) e.fields) =
    c.in_ok-other.ensures
    ∙ ap (λ fs. type_for dialect kind (printed_of changes.printed) missing (keeps_one (replacement_by changes) (map field_of fs)))
    c.deref-3.ensures.value in
    entry_edited c.push_field_edits.result (map edit_of c.args.edits.now.items) (map edit_of c.push_part_edit.new.edits.items)
    (map edit_of c.push_field_edits.new.edits.items) dialect c.args.defines c.args.text.now e kind changes
    (lent_text c.in_ok-other.other) missing found missing_is other_is c.in_ok-push_part_edit.ensures
    (subst
    (λ fs.
    OnOk c.push_field_edits.result
    (map edit_of c.push_field_edits.new.edits.items
    ≡ map edit_of c.push_part_edit.new.edits.items
    ++ change_edits changes c.args.text.now (map field_of fs) missing (map field_of fs)))
    c.deref-4.ensures.value c.push_field_edits.ensures)
