-- An entry without fields gets its first field.
use Rattle.std.proofs.Common.{◌≡◌, inr, ℕ, ◌+◌, ◌<◌, ◌≤◌, List, [], ◌∷◌, ◌++◌, length, map, refl, sym, ap, ◌∙◌, subst, arith, Some}
use Rattle.std.specs.Prelude.{◌==◌, slice_get, codes}
use Rattle.std.specs.Char.{is_whitespace}
use Rattle.bib_text.specs.Places.{Place, place, CharAt, Longest}
use Rattle.bib_text.specs.Places.Run.{stop, step}
use Rattle.bib_text.proofs.PlaceFacts.{ahead_then, ahead_char, ahead_run, longest_same, same_char, same_place, stops_at, char_within}
use Rattle.bib_syntax.specs.Reading.{EntryReading, FieldReading}
use Rattle.bib_syntax.specs.Grammar.{Fields, Gap, longest}
use Rattle.bib_syntax.proofs.FieldFacts.{ahead_gap, ahead_fields}
use Rattle.bib_syntax.proofs.FileFacts.{ahead_head}
use Rattle.bib_syntax.proofs.LawFacts.{start_not_white, start_plain}
use Rattle.edit_entries.specs.Changes.{NewField, field_reading, new_field_text}
use Rattle.edit_entries.specs.Edits.{Edit, edited, moved_place, moved_part, moved_field, moved_entry}
use Rattle.edit_entries.specs.Documents.{Document, IsDocument, entry_edited}
use Rattle.edit_entries.specs.Setting.{IsAfterComma}
use Rattle.edit_entries.proofs.BeforeFacts.{bytes_stand}
use Rattle.edit_entries.proofs.EditFacts.{Fits, before_frame, after_frame, moved_before, moved_after, zone_before, zone_after}
use Rattle.edit_entries.proofs.ZoneFacts.{Inside, inside_between, char_there, char_there_last, longest_there, part_there}
use Rattle.edit_entries.proofs.GrammarFacts.{below_char, gap_there, fields_there, head_there}
use Rattle.edit_entries.proofs.NewFieldFacts.{CanBePut, field_read}
use Rattle.edit_entries.proofs.SplitFacts.{EntryBlock, ahead_file_before, block_of, split_file}
use Rattle.edit_entries.proofs.StandsFacts.{ascii, first_part, last_part, past}
use Rattle.edit_entries.proofs.EntryFacts.{goes, before_stretch, after_stretch, entry_edited_read}

-- the parsed comma after an entry's key ends at the place of `IsAfterComma`
after_comma_is : (text : List ℕ) (e : EntryReading) (at : ℕ) {u v : Place} → (b : EntryBlock u e v) → u.text ≡ text
    → IsAfterComma text e at → b.after_comma ≡ place text at
after_comma_is text e at {u} {v} b same is =
    let to_key = ahead_then (ahead_head b.head) (ahead_run b.key.run) in
    let end : e.key.end ≡ b.key_end.at = ap (λ p. p.end) b.key_is in
    let here : place text e.key.end ≡ b.key_end = same_place {u = place text e.key.end} {v = b.key_end} (sym (to_key.text ∙ same)) end in
    let before : is.before ≡ b.before_comma =
    longest_same is.white (subst (λ p. Longest is_whitespace p b.before_comma) (sym here) b.white) in
    (same_char b.comma (subst (λ p. CharAt p 44 (place text at)) before is.comma)).1

-- the new text parses to the document with a field before the fields of an entry. It is the new field except for byte offsets.
pub record FirstAdded (d : Document) (k : ℕ) (e : EntryReading) (edit : Edit) (n : NewField) : Type 0 where
  pub reading : FieldReading
  pub alike : moved_field (λ n. 0) reading ≡ moved_field (λ n. 0) (field_reading n)
  pub read : IsDocument
      (entry_edited d edit k (record (moved_entry (moved_place edit) e) {
        fields = reading ∷ map (moved_field
            (moved_place edit)) e.fields;
      }))

pub only_field_read : (d : Document) (k : ℕ) (e : EntryReading) (at : ℕ) (n : NewField) → IsDocument d
    → slice_get d.says.entries k ≡ Some e → IsAfterComma d.text e at → CanBePut n
    → FirstAdded d k e (record { start = at; end = at; bytes = codes " " ++ (new_field_text n ++ codes ",") }) n
only_field_read d k e at n read here is can =
    let s = split_file k e read here in
    let b = s.block in
    let written : List ℕ = new_field_text n in
    let edit : Edit = record { start = at; end = at; bytes = codes " " ++ (written ++ codes ",") } in
    let move = moved_place edit in
    let new : List ℕ = edited edit d.text in
    let to_start = ahead_file_before s.first in
    let to_key = ahead_head b.head in
    let at_key = ahead_then to_start to_key in
    let at_before = ahead_then at_key (ahead_then (ahead_run b.key.run) (ahead_run b.white.run)) in
    let at_comma = ahead_then at_before (ahead_char b.comma) in
    let to_fields = ahead_gap b.gap in
    let to_brace = ahead_then to_fields (ahead_fields b.fields) in
    let to_close = ahead_then to_brace (ahead_char b.closes) in
    let place_is : b.after_comma ≡ place d.text at = after_comma_is d.text e at b to_start.text is in
    let at_is : b.after_comma.at ≡ at = ap (λ p. p.at) place_is in
    let closing_within = char_within b.closes in
    let within : at ≤ length d.text = omega (arith, at_is, to_close.at, closing_within, ap length to_close.text, ap length at_comma.text) in
    let stands = bytes_stand edit d.text within in
    let u0 : Place = place new at in
    let first = ascii 32 (omega arith) (first_part (32 ∷ []) (written ++ (44 ∷ [])) stands) in
    let u1 : Place = past u0 (32 ∷ []) in
    let s1 = last_part (32 ∷ []) (written ++ (44 ∷ [])) stands in
    let u2 : Place = past u1 written in
    let comma' = ascii 44 (omega arith) (last_part written (44 ∷ []) s1) in
    let none : Longest is_whitespace u2 u2 = record { run = stop; stops = stops_at is_whitespace comma' refl } in
    let line =
    field_read n can (first_part written (44 ∷ []) s1)
    (record { char = 44; next = _; here = comma'; no_name = refl; no_digit = refl; no_point = refl }) none
    (stops_at (λ c. c == 35) comma' refl) in
    let name = line.field.name in
    let fits : Fits edit d.text =
    record {
      ordered = omega arith;
      within = within;
      border = inr (32, u1, first);
    } in
    let z1 = zone_before edit d.text fits in
    let z2 = zone_after edit d.text fits.ordered fits.within in
    let before_at : b.before_comma.at < at = omega (arith, b.comma.next, at_is) in
    let iu : Inside (before_frame edit d.text) s.start =
    before_stretch edit d.text fits to_start.text
    (omega (arith, to_key.at, (ahead_run b.key.run).at, (ahead_run b.white.run).at)) in
    let iw : Inside (before_frame edit d.text) b.before_comma = before_stretch edit d.text fits at_before.text before_at in
    let ia = inside_between z1 iu iw to_key (ahead_then (ahead_run b.key.run) (ahead_run b.white.run)) in
    let ib = inside_between z1 ia iw (ahead_run b.key.run) (ahead_run b.white.run) in
    let jc : Inside (after_frame edit d.text) b.after_comma =
    after_stretch edit d.text fits at_comma.text (omega (arith, at_is))
    (omega (arith, to_close.at, closing_within, ap length to_close.text)) in
    let jf : Inside (after_frame edit d.text) b.fields_start =
    after_stretch edit d.text fits (ahead_then at_comma to_fields).text (omega (arith, at_is, to_fields.at))
    (omega (
      arith,
      (ahead_fields b.fields).at,
      (ahead_char b.closes).at,
      closing_within,
      ap length (ahead_then (ahead_fields b.fields) (ahead_char b.closes)).text,
    )) in
    let jb : Inside (after_frame edit d.text) b.brace =
    after_stretch edit d.text fits (ahead_then at_comma to_brace).text (omega (arith, at_is, to_brace.at))
    (omega (arith, (ahead_char b.closes).at, closing_within, ap length b.closes.same)) in
    let jd : Inside (after_frame edit d.text) s.end =
    after_stretch edit d.text fits (ahead_then at_comma to_close).text (omega (arith, at_is, to_close.at))
    closing_within in
    let last_char : CharAt (goes edit d.text b.before_comma) 44
    (place new (move b.before_comma.at + 1)) =
    char_there_last z1 iw (omega (arith, at_is)) b.comma in
    let comma_end : move b.before_comma.at + 1 ≡ at = omega (arith, moved_before edit b.before_comma.at before_at, b.comma.next, at_is) in
    let comma : CharAt (goes edit d.text b.before_comma) 44 (place new at) =
    subst (λ n. CharAt (goes edit d.text b.before_comma) 44 (place new n)) comma_end last_char in
    let end_is : move b.after_comma.at ≡ at + length edit.bytes =
    omega (arith, moved_after edit b.after_comma.at (omega (arith, at_is)), at_is) in
    let others : Gap longest (place new (at + length edit.bytes)) (goes edit d.text b.fields_start) =
    subst (λ n. Gap longest (place new n) (goes edit d.text b.fields_start)) end_is
    (gap_there z2 jc jf (omega (arith, (ahead_fields b.fields).at, below_char jd b.closes)) b.gap) in
    let e' : EntryReading = record (moved_entry move e) { fields = line.reading ∷ map (moved_field move) e.fields } in
    let block : EntryBlock (goes edit d.text s.start) e' (goes edit d.text s.end) = record {
      inside = goes edit d.text b.inside;
      key_end = goes edit d.text b.key_end;
      before_comma = goes edit d.text b.before_comma;
      after_comma = u0;
      fields_start = u1;
      brace = goes edit d.text b.brace;
      head = head_there z1 iu ia (omega (arith, (ahead_run b.key.run).at, (ahead_run b.white.run).at)) b.head;
      is_entry = b.is_entry;
      key = longest_there z1 ia ib (omega (arith, (ahead_run b.white.run).at)) b.key;
      white = longest_there z1 ib iw before_at b.white;
      comma = comma;
      gap = Gap.white
          (record { run = step first refl stop; stops = stops_at is_whitespace name.here (start_not_white name.first name.starts) })
          (stops_at (λ c. c == 37) name.here (start_plain name.first name.starts));
      fields =
          Fields.more line.field (Gap.white none (stops_at (λ c. c == 37) comma' refl)) comma' others
          (fields_there z2 jf jb (below_char jd b.closes) b.fields);
      closes = char_there z2 jb jd b.closes;
      key_is = ap (moved_part move) b.key_is ∙ sym (part_there z1 ia ib (ahead_run b.key.run));
      starts = ap move b.starts;
      ends = ap move b.ends;
    } in
    record {
      reading = line.reading;
      alike = line.alike;
      read =
          entry_edited_read d edit k e e' fits s
          (omega (arith, to_key.at, (ahead_run b.key.run).at, (ahead_run b.white.run).at))
          (omega (arith, at_is, to_close.at)) (block_of block);
    }
