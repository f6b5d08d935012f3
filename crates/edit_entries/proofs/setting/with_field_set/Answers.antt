use Rattle.std.proofs.Common.{◌≡◌, false, List, ◌∷◌, drop, map, sym, ap, ◌∙◌}
use Rattle.std.proofs.lemmas.List.{drop_more}
use Rattle.std.specs.String.{string_bytes}
use Rattle.std.specs.List.{list_any}
use Rattle.bib_syntax.specs.declared.raw.Pair.{Pair}
use Rattle.bib_syntax.specs.Views.{entry_reading_of, field_of}
use Rattle.edit_entries.specs.Documents.{has_name}
use Rattle.edit_entries.specs.SetTexts.{IsSetText}
use Rattle.edit_entries.specs.Changes.{field_before, name_edit}
use Rattle.edit_entries.specs.Edits.{edited}
use Rattle.edit_entries.specs.Layouts.{new_sign}
use Rattle.edit_entries.specs.Setting.{field_with_value, value_of, white_before}
use Rattle.edit_entries.proofs.SetFacts.{no_element, put_made}
use Rattle.edit_entries.proofs.setting.with_field_set.Goals as goal

pub returns-in-len1-up-clause-set : goal.returns-in-len1-up-clause-set
returns-in-len1-up-clause-set c =
    let fields : List Pair = c.as_slice-fields.result.now in
    let first : Pair = c.first-item.result in
    let listed : map field_of fields ≡ (entry_reading_of c.args.entry.now).fields = ap (map field_of) c.as_slice-fields.ensures.value in
    let cut : map field_of fields ≡ field_of first ∷ map field_of (drop 1 fields) =
    ap (map field_of) (drop_more fields 0 first c.in-len1-up.len_at_least ∙ ap (λ x. x ∷ drop 1 fields) (sym c.first-item.is)) in
    let none : list_any (has_name c.args.name.now) (entry_reading_of c.args.entry.now).fields ≡ false =
    ap (list_any (has_name c.args.name.now)) (sym listed) ∙ sym c.has_field.ensures ∙ c.if-has_field.false in
    put_made (map field_of c.args.definitions.now) c.args.text.now (entry_reading_of c.args.entry.now) c.args.name.now
    (value_of c.args.value) (field_of first) (map field_of (drop 1 fields)) (string_bytes c.in_ok-with_field_before-in-len1-up.field-0)
    none (sym listed ∙ cut)
    (c.in_ok-with_field_before-in-len1-up.ensures
    ∙ ap
    (λ fs.
    edited
    (name_edit (field_of first) (field_before (field_with_value c.args.name.now (value_of c.args.value))
    (new_sign c.args.text.now c.args.name.now (field_of first) fs) (white_before c.args.text.now (field_of first).name.start)))
    c.args.text.now) cut) c.in_ok-written.ensures.name c.in_ok-written.ensures.value

pub returns-clause-set : goal.returns-clause-set
returns-clause-set c =
    let is = c.in_ok-with_only_field-in-empty.ensures in
    IsSetText.only
    (ap (map field_of) (sym c.as_slice-fields.ensures.value ∙ no_element c.as_slice-fields.result.now c.in-empty.len_below))
    is.1 c.in_ok-written.ensures.name c.in_ok-written.ensures.value is.2
