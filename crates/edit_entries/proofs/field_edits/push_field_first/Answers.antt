use Rattle.std.proofs.Common.{◌≡◌, ◌++◌, ◌∷◌, [], List, ℕ, drop, map, sym, ap, ap₂, ◌∙◌}
use Rattle.std.specs.String.{string_bytes}
use Rattle.std.proofs.lemmas.List.{drop_more, map-append}
use Rattle.bib_syntax.specs.declared.raw.Pair.{Pair}
use Rattle.bib_syntax.specs.Reading.{FieldReading}
use Rattle.bib_syntax.specs.Views.{field_of}
use Rattle.edit_entries.specs.Changes.{field_before}
use Rattle.edit_entries.specs.Edits.{Edit}
use Rattle.edit_entries.specs.EditList.{edit_of}
use Rattle.edit_entries.specs.Layouts.{new_sign}
use Rattle.edit_entries.specs.Setting.{SetValue, field_with_value, value_of, white_before}
use Rattle.edit_entries.proofs.FieldEditFacts.{field_first_edits}
use Rattle.edit_entries.proofs.field_edits.push_field_first.Goals as goal

pub returns : goal.returns
returns c =
    let text : List ℕ = c.args.text.now in
    let name : List ℕ = c.args.name.now in
    let value : SetValue = value_of c.args.value in
    let fields : List Pair = c.args.fields.now in
    let first : Pair = c.first-item.result in
    let f : FieldReading = field_of first in
    let white : List ℕ = white_before text f.name.start in
    let cut : map field_of fields ≡ f ∷ map field_of (drop 1 fields) =
    ap (map field_of) (drop_more fields 0 first c.in-len1-up.len_at_least ∙ ap (λ x. x ∷ drop 1 fields) (sym c.first-item.is)) in
    let before : List Edit = map edit_of c.args.edits.now.items in
    let build : List ℕ → List Edit = λ (bs : List ℕ).
    before ++ (record { start = f.name.start; end = f.name.end; bytes = bs }) ∷ [] in
    let sign : List ℕ = new_sign text name f (map field_of fields) in
    let signed : c.deref.result.now ≡ sign = c.deref.ensures ∙ c.in_ok-sign.ensures in
    let bytes : string_bytes c.in_ok-text_before.field-0 ≡ field_before (field_with_value name value) sign white ++ f.name.text =
    c.in_ok-text_before.ensures
    ∙ ap₂ (λ b w. (name ++ (c.deref.result.now ++ b) ++ 44 ∷ w) ++ f.name.text) c.requires.written c.white_before-white.ensures
    ∙ ap (λ s. field_before (field_with_value name value) s white ++ f.name.text) signed in
    ap (map edit_of) c.in_ok-push.ensures.items ∙ map-append edit_of c.args.edits.now.items _
    ∙ ap build
    (bytes
    ∙ ap (λ fs. field_before (field_with_value name value) (new_sign text name f fs) white ++ f.name.text) cut)
    ∙ ap (λ es. before ++ es)
    (sym (field_first_edits text name value (map field_of fields) f (map field_of (drop 1 fields)) cut))
