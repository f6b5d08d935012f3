-- A field with another name.
use Rattle.std.proofs.Common.{◌≡◌, ℕ, ◌+◌, ◌<◌, ◌≤◌, List, [], ◌∷◌, length, drop, refl, sym, ap, ◌∙◌, subst, arith, Some}
use Rattle.std.specs.Prelude.{slice_get}
use Rattle.std.proofs.lemmas.Str.{len_utf8_bounds}
use Rattle.bib_text.specs.Places.{Place, place, CharAt}
use Rattle.bib_text.proofs.PlaceFacts.{ahead_char, ahead_run, ahead_then, char_within}
use Rattle.bib_syntax.specs.Reading.{EntryReading, FieldReading, Part}
use Rattle.bib_syntax.specs.Grammar.{Field, Identifier, longest}
use Rattle.bib_syntax.proofs.FieldFacts.{ahead_elements, ahead_field, ahead_identifier}
use Rattle.edit_entries.specs.Edits.{Edit, edited, moved_place, moved_field}
use Rattle.edit_entries.specs.Documents.{CanBeName, Document, IsDocument, text_at}
use Rattle.edit_entries.proofs.EditFacts.{after_frame, moved_before, moved_after, new_bytes, zone_after}
use Rattle.edit_entries.proofs.ZoneFacts.{Inside, char_there, inside, inside_between, longest_there}
use Rattle.edit_entries.proofs.GrammarFacts.{below_between, below_char, elements_there}
use Rattle.edit_entries.proofs.SplitFacts.{FieldsBefore, ahead_fields_after, split_fields, split_file}
use Rattle.edit_entries.proofs.EntryFacts.{ahead_to_field, goes}
use Rattle.edit_entries.proofs.NewValueFacts.{run_ending}
use Rattle.edit_entries.proofs.ElementFacts.{Ending}
use Rattle.edit_entries.proofs.KindFacts.{IsWithin}
use Rattle.edit_entries.proofs.PutFacts.{NewFields, fields_put, fields_put_read}
use Rattle.edit_entries.proofs.NameStandsFacts.{name_stands}

-- the edit that replaces a field's name
abbrev pub name_stretch : FieldReading → List ℕ → Edit
name_stretch f name = record { start = f.name.start; end = f.name.end; bytes = name }

-- a field with this name, which begins at the same byte offset
abbrev pub with_name : List ℕ → FieldReading → FieldReading
with_name name f = record f { name = text_at f.name.start name }

-- a field's name isn't empty
pub name_some : {u v : Place} {f : FieldReading} → Field longest u f v → f.name.start < f.name.end
name_some field =
    omega (
      arith,
      ap (λ p. p.start) field.name.reading,
      ap (λ p. p.end) field.name.reading,
      field.name.here.next,
      (len_utf8_bounds field.name.first).0,
      (ahead_run field.name.rest.run).at,
    )

-- an edit that replaces a field's name: the field with another name is parsed if an identifier ends after the new bytes
pub record NameReplaced (edit : Edit) (text : List ℕ) (f : FieldReading) (v : Place) : Type 0 where
  pub some : edit.start < edit.end
  pub within : edit.end ≤ length text
  pub ending : Ending (place (edited edit text) (edit.start + length edit.bytes))
  pub field : {from : Place} {p : Part} → Identifier longest from p (place (edited edit text) (edit.start + length edit.bytes))
      → Field longest from (record (moved_field (moved_place edit) f) { name = p }) (goes edit text v)

pub name_replaced : (edit : Edit) (text : List ℕ) (f : FieldReading) {u v : Place} → u.text ≡ text → v.at ≤ length text
    → edit.start ≡ f.name.start → edit.end ≡ f.name.end → Field longest u f v → NameReplaced edit text f v
name_replaced edit text f {u} {v} same inside_text starts ends field =
    let move = moved_place edit in
    let new : List ℕ = edited edit text in
    let from_value = ahead_elements field.elements in
    let from_white' = ahead_then (ahead_run field.white'.run) from_value in
    let from_sign = ahead_then (ahead_char field.sign) from_white' in
    let from_name = ahead_then (ahead_run field.white.run) from_sign in
    let at_name = ahead_identifier field.name in
    let at_end = ahead_then at_name from_name in
    let end_is : edit.end ≡ field.name_end.at = ends ∙ ap (λ p. p.end) field.name.reading in
    let some : edit.start < edit.end = omega (arith, starts, ends, name_some field) in
    let within : edit.end ≤ length text = omega (arith, end_is, from_name.at) in
    let z = zone_after edit text (omega (arith, some)) within in
    let frame = after_frame edit text in
    let ja : Inside frame field.name_end = inside z (at_name.text ∙ same) (omega (arith, end_is)) (omega (arith, from_name.at)) in
    let jv : Inside frame v = inside z (at_end.text ∙ same) (omega (arith, end_is, from_name.at)) (omega arith) in
    let jb = inside_between z ja jv (ahead_run field.white.run) from_sign in
    let jc = inside_between z jb jv (ahead_char field.sign) from_white' in
    let jd = inside_between z jc jv (ahead_run field.white'.run) from_value in
    let below : v.at < frame.end = omega arith in
    let sign : Ending field.before_sign =
    record { char = 61; next = field.after_sign; here = field.sign; no_name = refl; no_digit = refl; no_point = refl } in
    let next = run_ending field.white.run sign in
    let jx : Inside frame next.next =
    inside z (next.here.same ∙ at_name.text ∙ same) (omega (arith, (ahead_char next.here).at, end_is))
    (omega (arith, char_within next.here, ap length next.here.same, ap length (at_name.text ∙ same))) in
    let end_goes : move field.name_end.at ≡ edit.start + length edit.bytes =
    omega (arith, moved_after edit field.name_end.at (omega (arith, end_is)), end_is) in
    record {
      some = some;
      within = within;
      ending = record {
        char = next.char;
        next = goes edit text next.next;
        here = subst (λ n. CharAt (place new n) next.char (goes edit text next.next)) end_goes (char_there z ja jx next.here);
        no_name = next.no_name;
        no_digit = next.no_digit;
        no_point = next.no_point;
      };
      field = λ {from} {p} i. record {
        name_end = goes edit text field.name_end;
        before_sign = goes edit text field.before_sign;
        after_sign = goes edit text field.after_sign;
        value_start = goes edit text field.value_start;
        name = subst (λ n. Identifier longest from p (place new n)) (sym end_goes) i;
        white = longest_there z ja jb (below_char jc field.sign) field.white;
        sign = char_there z jb jc field.sign;
        white' = longest_there z jc jd (below_between frame from_value below) field.white';
        elements = elements_there z jd jv below field.elements;
        starts = ap move field.starts;
        ends = ap move field.ends;
      };
    }

name_exchanged : (text : List ℕ) (f : FieldReading) (name : List ℕ) {u v : Place} → u.text ≡ text → v.at ≤ length text
    → CanBeName name → Field longest u f v
    → Field longest (goes (name_stretch f name) text u)
    (with_name name (moved_field (moved_place (name_stretch f name)) f)) (goes (name_stretch f name) text v)
name_exchanged text f name {u} {v} same inside_text can field =
    let edit : Edit = name_stretch f name in
    let move = moved_place edit in
    let new : List ℕ = edited edit text in
    let r = name_replaced edit text f same inside_text refl refl field in
    let i =
    name_stands new (drop edit.end text) name edit.start r.ending.char can
    (new_bytes edit text (omega (arith, r.some, r.within))) r.ending.here r.ending.no_name in
    let start_is : edit.start ≡ u.at = ap (λ p. p.start) field.name.reading in
    let start_goes : move u.at ≡ edit.start = moved_before edit u.at (omega (arith, start_is, r.some)) ∙ sym start_is in
    let kept : move edit.start ≡ edit.start = moved_before edit edit.start r.some in
    subst (λ n. Field longest (goes edit text u) (record (moved_field move f) { name = text_at n name }) (goes edit text v)) (sym kept)
    (subst (λ n. Field longest (place new n) (record (moved_field move f) { name = text_at edit.start name }) (goes edit text v))
    (sym start_goes) (r.field i))

pub name_exchanged_read : (d : Document) (k : ℕ) (e : EntryReading) (j : ℕ) (f : FieldReading) (name : List ℕ)
    → IsDocument d → slice_get d.says.entries k ≡ Some e → slice_get e.fields j ≡ Some f → CanBeName name
    → IsWithin (name_stretch f name) d.text
    × IsDocument
    (fields_put d (name_stretch f name) k e j
    (with_name name (moved_field (moved_place (name_stretch f name)) f) ∷ []))
name_exchanged_read d k e j f name read here there can =
    let s = split_file k e read here in
    let b = s.block in
    let g = split_fields j f b.fields there in
    let edit : Edit = name_stretch f name in
    let at_field = ahead_to_field s g in
    let from_end = ahead_then (ahead_fields_after g.rest) (ahead_char b.closes) in
    let over = ahead_field g.field in
    let size : length s.end.text ≡ length d.text = ap length (ahead_then at_field (ahead_then over from_end)).text in
    let inside_text : g.end.at ≤ length d.text = omega (arith, from_end.at, char_within b.closes) in
    let start_is : edit.start ≡ g.start.at = ap (λ p. p.start) g.field.name.reading in
    let from_name =
    ahead_then (ahead_run g.field.white.run)
    (ahead_then (ahead_char g.field.sign)
    (ahead_then (ahead_run g.field.white'.run) (ahead_elements g.field.elements))) in
    let past : edit.end ≤ g.end.at = omega (arith, ap (λ p. p.end) g.field.name.reading, from_name.at) in
    let some = name_some g.field in
    let new = name_exchanged d.text f name at_field.text inside_text can g.field in
    let news : NewFields (goes edit d.text g.start) (with_name name (moved_field (moved_place edit) f) ∷ [])
    (goes edit d.text g.end) =
    record {
      first = [];
      last = with_name name (moved_field (moved_place edit) f);
      middle = goes edit d.text g.start;
      before = FieldsBefore.none;
      field = new;
      are = refl;
    } in
    (record { some = some; within = omega (arith, some, past, inside_text) }, fields_put_read d edit k e j f _ s g start_is some past news)
