use Rattle.std.proofs.Common.{◌≡◌, ◌++◌, map, sym, ap, ◌∙◌, subst}
use Rattle.std.specs.List.{list_any}
use Rattle.bib_syntax.specs.Reading.{EntryReading}
use Rattle.bib_syntax.specs.Views.{entry_reading_of, field_of}
use Rattle.edit_entries.specs.Changes.{edits_of_entry}
use Rattle.edit_entries.specs.Documents.{has_name}
use Rattle.edit_entries.specs.EditList.{edit_of}
use Rattle.edit_entries.specs.FieldEdits.{entry_edited_by}
use Rattle.edit_entries.proofs.FieldEditFacts.{names_kept}
use Rattle.edit_entries.proofs.field_edits.push_entry_edits.Goals as goal

pub returns-then-has_field-3 : goal.returns-then-has_field-3
returns-then-has_field-3 c =
    let e : EntryReading = entry_reading_of c.args.entry.now in
    let new = c.in-Rename.new.now in
    let has =
    ap (λ fs. list_any (has_name new) (map field_of fs)) (sym c.as_slice-fields.ensures.value)
    ∙ sym c.has_field-in-Rename.ensures ∙ c.if-has_field-3.true in
    subst
    (λ edit.
    map edit_of c.args.edits.now.items
    ≡ map edit_of c.args.edits.now.items ++ edits_of_entry c.args.text.now e (entry_edited_by c.args.text.now edit e))
    (sym c.in-Rename.is) (names_kept c.args.text.now c.in-Rename.old.now new e (map edit_of c.args.edits.now.items) has)
