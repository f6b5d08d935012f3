use Rattle.std.proofs.Common.{◌≡◌, ◌++◌, ◌∷◌, [], ◌∙◌, ◌-◌, ℕ, List, ap, arith, append_assoc, length, map, sym}
use Rattle.std.specs.String.{string_bytes}
use Rattle.std.proofs.lemmas.List.{map-append}
use Rattle.bib_syntax.specs.Reading.{FieldReading}
use Rattle.bib_syntax.specs.Views.{field_of}
use Rattle.edit_entries.specs.Changes.{FieldChange, edits_of_field, edits_of_fields, field_stretch, field_text_by, more_field_texts}
use Rattle.edit_entries.specs.EditList.{edit_of}
use Rattle.edit_entries.specs.Edits as edits
use Rattle.edit_entries.specs.Placed.{IsPlaced}
use Rattle.edit_entries.specs.Setting.{white_before}
use Rattle.edit_entries.proofs.AllFacts.{all_there}
use Rattle.edit_entries.proofs.PositionFacts.{slice_get-map}
use Rattle.edit_entry_merge.specs.Mixed.{copied_field, field_written, sign_for}
use Rattle.edit_entry_merge.specs.Working.{added_fields, all_removed, pick_of}
use Rattle.edit_entry_merge.proofs.ClosingFacts.{closing_edits, first_is, last_is, last_of}
use Rattle.edit_entry_merge.proofs.closing.push_closing.Goals as goal

pub value_end-requires : goal.value_end-requires
value_end-requires c =
    let xs = c.args.fields.now in
    let x = c.index-fields-fields.result in
    all_there (IsPlaced c.args.texts.main.now) (map field_of xs) (length xs - 1) (field_of x) c.requires.fields.values
    (slice_get-map field_of xs (length xs - 1) x (omega (arith, c.requires.some)) c.index-fields-fields.is)

pub returns : goal.returns
returns c f following whole =
    let text = c.args.texts.main.now in
    let other = c.args.texts.other.now in
    let all : List FieldReading = map field_of c.args.texts.fields.now in
    let xs = c.args.fields.now in
    let last = c.index-fields-fields.result in
    let added : List FieldReading = added_fields c.args.added.now in
    let bytes : FieldReading → List ℕ =
    λ (g : FieldReading).
    field_text_by (sign_for text g all) (field_written text other g (pick_of c.args.pick))
    ++ more_field_texts (sign_for text g all) (white_before text g.name.start) (map (copied_field other) added) in
    let first : field_of c.index-fields-0.result ≡ f = first_is field_of xs c.index-fields-0.result f following whole c.index-fields-0.is in
    let is_last : field_of last ≡ last_of f following = last_is field_of xs last f following whole c.index-fields-fields.is in
    let change : FieldChange =
    FieldChange.replaced (sign_for text f all) (field_written text other f (pick_of c.args.pick)) (map (copied_field other) added)
    (white_before text f.name.start) in
    let written : string_bytes c.in_ok-closing_text.field-0 ≡ bytes f = c.in_ok-closing_text.ensures ∙ ap bytes first in
    let edit : edit_of (record { start = last.key.span.start; end = c.value_end.result; text = c.in_ok-closing_text.field-0 })
    ≡ field_stretch text (last_of f following) (bytes f) =
    ap (λ n. let e : edits.Edit = record { start = last.key.span.start; end = n; bytes = string_bytes c.in_ok-closing_text.field-0 } in e)
    c.value_end.ensures.end
    ∙ ap (λ b. field_stretch text (field_of last) b) written ∙ ap (λ g. field_stretch text g (bytes f)) is_last in
    ap (map edit_of) c.in_ok-push.ensures.items
    ∙ map-append edit_of c.push_removals.new.edits.items _
    ∙ ap (λ e. map edit_of c.push_removals.new.edits.items ++ e ∷ []) edit
    ∙ ap (λ l. l ++ edits_of_field text (last_of f following) [] change) (c.in_ok-push_removals.ensures text)
    ∙ append_assoc (map edit_of c.args.edits.now.items) (edits_of_fields text (map field_of xs) (all_removed (map field_of xs)))
    (edits_of_field text (last_of f following) [] change)
    ∙ ap
    (λ l.
    map edit_of c.args.edits.now.items
    ++ (edits_of_fields text l (all_removed l) ++ edits_of_field text (last_of f following) [] change)) whole
    ∙ ap (λ l. map edit_of c.args.edits.now.items ++ l) (sym (closing_edits text f following change))
