-- A new field before a field, with a comma and white space between them.
use Rattle.std.proofs.Common.{◌≡◌, ℕ, ◌+◌, ◌≤◌, List, [], ◌∷◌, ◌++◌, length, drop, map, refl, sym, ap, ◌∙◌, subst, arith, length-append, Some}
use Rattle.std.specs.Prelude.{◌==◌, slice_get}
use Rattle.std.specs.Char.{is_whitespace}
use Rattle.bib_text.specs.Places.{Place, place, Longest, between}
use Rattle.bib_text.specs.Places.Run.{stop}
use Rattle.bib_text.proofs.PlaceFacts.{ahead_char, ahead_run, ahead_then, stops_at, char_within}
use Rattle.bib_syntax.specs.Reading.{EntryReading, FieldReading, FileReading, Part, part}
use Rattle.bib_syntax.specs.Grammar.{Field, Identifier, longest}
use Rattle.bib_syntax.specs.Grammar.{Gap as gap}
use Rattle.bib_syntax.proofs.FieldFacts.{ahead_elements, ahead_field, ahead_identifier}
use Rattle.bib_syntax.proofs.LawFacts.{start_not_white, start_plain}
use Rattle.edit_entries.specs.Changes.{NewField, field_before, field_reading, name_edit, signed_field_text}
use Rattle.edit_entries.specs.Documents.{Document, IsDocument, text_at}
use Rattle.edit_entries.specs.Edits.{Edit, edited, moved_field, moved_place}
use Rattle.edit_entries.proofs.EditFacts.{moved_before, new_bytes, text_stands}
use Rattle.edit_entries.proofs.ElementFacts.{Ending, identifier_until}
use Rattle.edit_entries.proofs.EntryFacts.{ahead_to_field, goes}
use Rattle.edit_entries.proofs.FieldNameFacts.{name_replaced, name_some}
use Rattle.edit_entries.proofs.KindFacts.{IsWithin}
use Rattle.edit_entries.proofs.FieldMadeFacts.{IsPut}
use Rattle.edit_entries.proofs.NewFieldFacts.{CanBePut, IsSign, signed_read}
use Rattle.edit_entries.proofs.PartFacts.{IsIn}
use Rattle.edit_entries.proofs.PlacelessFacts.{file_placeless}
use Rattle.edit_entries.proofs.PutFacts.{Begins, NewFields, fields_put, fields_put_read}
use Rattle.edit_entries.proofs.SplitFacts.{FieldsBefore, ahead_fields_after, split_fields, split_file}
use Rattle.edit_entries.proofs.StandsFacts.{AreWhite, Stands, ascii, between_stands, copied_before, copy_frame, first_part, last_part, past, run_white}
use Rattle.edit_entries.proofs.ZoneFacts.{there}

-- the new bytes of an edit are in the new text from the start of the edit on
pub bytes_stand : (edit : Edit) (text : List ℕ) → edit.start ≤ length text
    → Stands (place (edited edit text) edit.start) edit.bytes (place (edited edit text) (edit.start + length edit.bytes))
bytes_stand edit text within =
    let standing : drop edit.start (edited edit text) ≡ edit.bytes ++ drop edit.end text = new_bytes edit text within in
    record {
      same = refl;
      here =
          standing
          ∙ ap (λ xs. edit.bytes ++ xs) (sym (text_stands (edited edit text) edit.bytes (drop edit.end text) edit.start standing));
      next = refl;
    }

-- a moved field whose name begins after the bytes `lead` at its old start
abbrev behind : FieldReading → List ℕ → (ℕ → ℕ) → FieldReading
behind f lead move = record (moved_field move f) { name = text_at (f.name.start + length lead) f.name.text }

field_behind : (text : List ℕ) (f : FieldReading) (lead : List ℕ) {u v : Place} → u.text ≡ text → v.at ≤ length text
    → Field longest u f v
    → Field longest (place (edited (name_edit f lead) text) (f.name.start + length lead))
    (behind f lead (moved_place (name_edit f lead))) (goes (name_edit f lead) text v)
field_behind text f lead {u} {v} same inside_text field =
    let edit : Edit = name_edit f lead in
    let name : List ℕ = f.name.text in
    let move = moved_place edit in
    let new : List ℕ = edited edit text in
    let r = name_replaced edit text f same inside_text refl refl field in
    let size : length edit.bytes ≡ length lead + length name = length-append lead name in
    let to : Place = place new (edit.start + length edit.bytes) in
    let from : Place = place new (edit.start + length lead) in
    let stands = last_part lead name (bytes_stand edit text (omega (arith, r.some, r.within))) in
    let name_is : name ≡ between u field.name_end = ap (λ p. p.text) field.name.reading in
    let name_within : field.name_end.at ≤ length u.text =
    omega (arith, ap (λ p. p.end) field.name.reading, r.within, ap length same) in
    let c =
    copied_before (ahead_identifier field.name) name_within (subst (λ t. Stands from t to) name_is stands) r.ending.here in
    let f' = copy_frame u field.name_end from in
    let i = identifier_until c.zone c.start c.end (subst Ending (sym c.goes_end) r.ending) field.name in
    let i1 : Identifier longest (there f' u) (part (there f' u) (there f' field.name_end)) (there f' field.name_end) =
    subst (λ p. Identifier longest (there f' u) p (there f' field.name_end)) i.reading i in
    let i2 : Identifier longest from (part from (there f' field.name_end)) (there f' field.name_end) =
    subst (λ q. Identifier longest q (part q (there f' field.name_end)) (there f' field.name_end)) c.goes_start i1 in
    let i3 : Identifier longest from (part from to) to =
    subst (λ q. Identifier longest from (part from q) q) c.goes_end i2 in
    let build : List ℕ → ℕ → Part = λ (t : List ℕ) (n : ℕ). record { text = t; start = from.at; end = n } in
    let named : part from to ≡ text_at (edit.start + length lead) name =
    ap (λ t. build t to.at) (between_stands name stands) ∙ ap (build name) (omega (arith, size)) in
    subst (λ p. Field longest from (record (moved_field move f) { name = p }) (goes edit text v)) named (r.field i3)

-- an edit of a field's name puts a new field and a comma before this field. The new field can be inserted, `sign` can be between its name
-- and its value, and `white` is white space
pub preceded_put : (d : Document) (f : FieldReading) (n : NewField) (sign white : List ℕ) → CanBePut n → IsSign sign → AreWhite white
    → IsIn d.text f → IsPut d f (name_edit f (field_before n sign white)) (field_reading n ∷ f ∷ [])
preceded_put d f n sign white can is_sign all is = record {
  start = omega arith;
  inside = omega (arith, is.name.some, is.ordered, is.value);
  read = λ at k after entry j past agrees read here there'. put_read k after entry j read here there';
}
  where
    lead : List ℕ
    lead = field_before n sign white

    edit : Edit
    edit = name_edit f lead

    put_read : (k : ℕ) (after : Document) (entry : EntryReading) (j : ℕ) → IsDocument after
        → slice_get after.says.entries k ≡ Some entry → slice_get entry.fields j ≡ Some f
        → (made : List FieldReading) × (map (moved_field (λ n. 0)) made ≡ map (moved_field (λ n. 0)) (field_reading n ∷ f ∷ []))
        × IsWithin edit after.text × IsDocument (fields_put after edit k entry j made) × Begins made f.name.start
    put_read k after entry j read here there' =
        let text : List ℕ = after.text in
        let move = moved_place edit in
        let s = split_file k entry read here in
        let b = s.block in
        let g = split_fields j f b.fields there' in
        let at_field = ahead_to_field s g in
        let from_end = ahead_then (ahead_fields_after g.rest) (ahead_char b.closes) in
        let over = ahead_field g.field in
        let size : length s.end.text ≡ length text = ap length (ahead_then at_field (ahead_then over from_end)).text in
        let inside_text : g.end.at ≤ length text = omega (arith, from_end.at, char_within b.closes) in
        let start_is : edit.start ≡ g.start.at = ap (λ p. p.start) g.field.name.reading in
        let from_name =
        ahead_then (ahead_run g.field.white.run)
        (ahead_then (ahead_char g.field.sign)
        (ahead_then (ahead_run g.field.white'.run) (ahead_elements g.field.elements))) in
        let past_name : edit.end ≤ g.end.at = omega (arith, ap (λ p. p.end) g.field.name.reading, from_name.at) in
        let some = name_some g.field in
        let within : edit.start ≤ length text = omega (arith, some, past_name, inside_text) in
        let from : Place = place (edited edit text) edit.start in
        let stands = first_part lead f.name.text (bytes_stand edit text within) in
        let written : List ℕ = signed_field_text sign n in
        let s1 = first_part written (44 ∷ white) stands in
        let s2 = last_part written (44 ∷ white) stands in
        let comma = ascii 44 (omega arith) (first_part (44 ∷ []) white s2) in
        let s3 = last_part (44 ∷ []) white s2 in
        let field' = field_behind text f lead at_field.text inside_text g.field in
        let none : Longest is_whitespace (past from written) (past from written) =
        record { run = stop; stops = stops_at is_whitespace comma refl } in
        let x =
        signed_read n sign can is_sign s1
        (record { char = 44; next = _; here = comma; no_name = refl; no_digit = refl; no_point = refl }) none
        (stops_at (λ c. c == 35) comma refl) in
        let gap1 = gap.white none (stops_at (λ c. c == 37) comma refl) in
        let gap2 =
        gap.white
        (record {
          run = run_white white all s3;
          stops = stops_at is_whitespace field'.name.here (start_not_white field'.name.first field'.name.starts);
        }) (stops_at (λ c. c == 37) field'.name.here (start_plain field'.name.first field'.name.starts)) in
        let f' : FieldReading = behind f lead move in
        let news : NewFields from (x.reading ∷ f' ∷ []) (goes edit text g.end) =
        record {
          first = x.reading ∷ [];
          last = f';
          middle = place (edited edit text) (f.name.start + length lead);
          before = FieldsBefore.more x.field gap1 comma gap2 FieldsBefore.none;
          field = field';
          are = refl;
        } in
        let start_goes : move g.start.at ≡ edit.start = moved_before edit g.start.at (omega (arith, start_is, some)) ∙ sym start_is in
        let news' =
        subst (λ m. NewFields (place (edited edit text) m) (x.reading ∷ f' ∷ []) (goes edit text g.end)) (sym start_goes) news in
        let alone : FileReading = record { preamble = []; entries = []; abbreviations = f ∷ [] } in
        let rest : map (moved_field (λ n. 0)) (f' ∷ []) ≡ map (moved_field (λ n. 0)) (f ∷ []) =
        ap (λ says. says.abbreviations) (file_placeless move alone) in (
          x.reading ∷ f' ∷ [],
          ap (λ r. r ∷ map (moved_field (λ n. 0)) (f' ∷ [])) x.alike ∙ ap (λ fs. moved_field (λ n. 0) (field_reading n) ∷ fs) rest,
          record { some = some; within = within },
          fields_put_read after edit k entry j f _ s g start_is some past_name news',
          record { first = x.reading; others = f' ∷ []; are = refl; start = x.start },
        )
