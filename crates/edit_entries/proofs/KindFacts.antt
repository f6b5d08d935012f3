-- An entry whose type has another name.
use Rattle.std.proofs.Common.{◌≡◌, inr, ℕ, ◌+◌, ◌<◌, ◌≤◌, List, length, drop, sym, ap, ◌∙◌, subst, arith, Some}
use Rattle.std.specs.Prelude.{slice_get}
use Rattle.std.proofs.lemmas.Str.{len_utf8_bounds}
use Rattle.bib_text.specs.Places.{place, CharAt}
use Rattle.bib_text.proofs.PlaceFacts.{ahead_char, ahead_run, ahead_then, char_within}
use Rattle.bib_syntax.specs.Reading.{Part, EntryReading}
use Rattle.bib_syntax.specs.Grammar.{BlockKind, Head, Identifier, block_kind, longest}
use Rattle.bib_syntax.proofs.FieldFacts.{ahead_fields, ahead_gap, ahead_identifier}
use Rattle.edit_entries.specs.Edits.{Edit, edited, moved_place, moved_part, moved_entry}
use Rattle.edit_entries.specs.Documents.{CanBeName, Document, IsDocument, entry_edited, text_at}
use Rattle.edit_entries.proofs.EditFacts.{Fits, before_frame, after_frame, moved_before, moved_after, new_bytes, zone_before, zone_after}
use Rattle.edit_entries.proofs.ZoneFacts.{Inside, char_there, inside, inside_between, longest_there, part_there}
use Rattle.edit_entries.proofs.GrammarFacts.{below_between, below_char, fields_there, gap_there}
use Rattle.edit_entries.proofs.SplitFacts.{EntryBlock, ahead_file_before, block_of, split_file}
use Rattle.edit_entries.proofs.EntryFacts.{entry_edited_read, goes}
use Rattle.edit_entries.proofs.ValueFacts.{run_stands}
use Rattle.edit_entries.proofs.NameStandsFacts.{name_stands}

-- the edit that replaces the name of an entry's type
abbrev pub kind_stretch : EntryReading → List ℕ → Edit
kind_stretch e name = record { start = e.kind.start; end = e.kind.end; bytes = name }

-- an entry with this name of its type, which begins at the same byte offset
abbrev pub with_kind : List ℕ → EntryReading → EntryReading
with_kind name e = record e { kind = text_at e.kind.start name }

-- a stretch isn't empty, and begins in the text or at its end
pub record IsWithin (edit : Edit) (text : List ℕ) : Type 0 where
  pub some : edit.start < edit.end
  pub within : edit.start ≤ length text

pub kind_exchanged_read : (d : Document) (k : ℕ) (e : EntryReading) (name : List ℕ) → IsDocument d
    → slice_get d.says.entries k ≡ Some e → CanBeName name → block_kind name ≡ BlockKind.entry
    → IsWithin (kind_stretch e name) d.text
    × IsDocument
    (entry_edited d (kind_stretch e name) k (with_kind name (moved_entry (moved_place (kind_stretch e name)) e)))
kind_exchanged_read d k e name read here can is_entry =
    let s = split_file k e read here in
    let b = s.block in
    let h = b.head in
    let edit : Edit = kind_stretch e name in
    let move = moved_place edit in
    let new : List ℕ = edited edit d.text in
    let to_start = ahead_file_before s.first in
    let at_name = ahead_then to_start (ahead_char h.sign) in
    let at_end = ahead_then at_name (ahead_identifier h.name) in
    let from_fields = ahead_then (ahead_fields b.fields) (ahead_char b.closes) in
    let from_gap = ahead_then (ahead_gap b.gap) from_fields in
    let from_comma = ahead_then (ahead_char b.comma) from_gap in
    let from_white = ahead_then (ahead_run b.white.run) from_comma in
    let from_key = ahead_then (ahead_run b.key.run) from_white in
    let from_white' = ahead_then (ahead_run h.white'.run) from_key in
    let from_brace = ahead_then (ahead_char h.opens) from_white' in
    let from_end = ahead_then (ahead_run h.white.run) from_brace in
    let at_close = ahead_then at_end from_end in
    let start_is : edit.start ≡ h.name_start.at = ap (λ p. p.start) h.name.reading in
    let end_is : edit.end ≡ h.name_end.at = ap (λ p. p.end) h.name.reading in
    let some : edit.start < edit.end =
    omega
    (arith, start_is, end_is, h.name.here.next, (len_utf8_bounds h.name.first).0, (ahead_run h.name.rest.run).at) in
    let closing = char_within b.closes in
    let text_size : length s.end.text ≡ length d.text = ap length at_close.text in
    let within : edit.end ≤ length d.text = omega (arith, end_is, from_end.at) in
    let z2 = zone_after edit d.text (omega (arith, some)) within in
    let jn : Inside (after_frame edit d.text) h.name_end = inside z2 at_end.text (omega (arith, end_is)) (omega (arith, from_end.at)) in
    let jd : Inside (after_frame edit d.text) s.end = inside z2 at_close.text (omega (arith, end_is, from_end.at)) (omega arith) in
    let jb = inside_between z2 jn jd (ahead_run h.white.run) from_brace in
    let ja = inside_between z2 jb jd (ahead_char h.opens) from_white' in
    let ji = inside_between z2 ja jd (ahead_run h.white'.run) from_key in
    let jk = inside_between z2 ji jd (ahead_run b.key.run) from_white in
    let jw = inside_between z2 jk jd (ahead_run b.white.run) from_comma in
    let jc = inside_between z2 jw jd (ahead_char b.comma) from_gap in
    let jf = inside_between z2 jc jd (ahead_gap b.gap) from_fields in
    let jz = inside_between z2 jf jd (ahead_fields b.fields) (ahead_char b.closes) in
    let frame = after_frame edit d.text in
    let brace_below = below_char jd b.closes in
    let comma_below = below_char jc b.comma in
    let next = run_stands h.white.run h.opens in
    let jx : Inside frame next.next =
    inside z2 (next.here.same ∙ at_end.text) (omega (arith, (ahead_char next.here).at, end_is))
    (omega (arith, char_within next.here, ap length next.here.same, ap length at_end.text)) in
    let end_goes : move h.name_end.at ≡ edit.start + length name =
    omega (arith, moved_after edit h.name_end.at (omega (arith, end_is)), end_is) in
    let start_goes : move h.name_start.at ≡ edit.start = moved_before edit h.name_start.at (omega (arith, start_is, some)) ∙ sym start_is in
    let ending : CharAt (place new (edit.start + length name)) next.char (goes edit d.text next.next) =
    subst (λ n. CharAt (place new n) next.char (goes edit d.text next.next)) end_goes
    (char_there z2 jn jx next.here) in
    let i =
    name_stands new (drop edit.end d.text) name edit.start next.char can
    (new_bytes edit d.text (omega (arith, some, within))) ending
    (h.name.rest.stops next.char next.next next.here) in
    let fits : Fits edit d.text = record { ordered = omega (arith, some); within = within; border = inr (i.first, i.second, i.here) } in
    let z1 = zone_before edit d.text fits in
    let iu : Inside (before_frame edit d.text) s.start =
    record {
      text = to_start.text;
      start = omega arith;
      end = omega (arith, (ahead_char h.sign).at, start_is);
      moved = ap (λ n. n + 0) (moved_before edit s.start.at (omega (arith, (ahead_char h.sign).at, start_is, some)));
    } in
    let is : Inside (before_frame edit d.text) h.name_start =
    record {
      text = at_name.text;
      start = omega arith;
      end = omega (arith, start_is);
      moved = ap (λ n. n + 0) (moved_before edit h.name_start.at (omega (arith, start_is, some)));
    } in
    let kept : move edit.start ≡ edit.start = moved_before edit edit.start some in
    let kind : Part = text_at (move edit.start) name in
    let read_name : Identifier longest (goes edit d.text h.name_start) kind (goes edit d.text h.name_end) =
    subst (λ n. Identifier longest (goes edit d.text h.name_start) (text_at n name) (goes edit d.text h.name_end)) (sym kept)
    (subst (λ n. Identifier longest (goes edit d.text h.name_start) (text_at edit.start name) (place new n)) (sym end_goes)
    (subst (λ n. Identifier longest (place new n) (text_at edit.start name) (place new (edit.start + length name))) (sym start_goes) i)) in
    let head : Head longest (goes edit d.text s.start) kind (goes edit d.text b.inside) = record {
      name_start = goes edit d.text h.name_start;
      name_end = goes edit d.text h.name_end;
      before_brace = goes edit d.text h.before_brace;
      after_brace = goes edit d.text h.after_brace;
      brace = h.brace;
      sign = char_there z1 iu is h.sign;
      name = read_name;
      white = longest_there z2 jn jb (below_char ja h.opens) h.white;
      opens = char_there z2 jb ja h.opens;
      is_brace = h.is_brace;
      white' = longest_there z2 ja ji (below_between frame (ahead_then (ahead_run b.key.run) (ahead_run b.white.run)) comma_below) h.white';
    } in
    let e' : EntryReading = with_kind name (moved_entry move e) in
    let block : EntryBlock (goes edit d.text s.start) e' (goes edit d.text s.end) = record {
      inside = goes edit d.text b.inside;
      key_end = goes edit d.text b.key_end;
      before_comma = goes edit d.text b.before_comma;
      after_comma = goes edit d.text b.after_comma;
      fields_start = goes edit d.text b.fields_start;
      brace = goes edit d.text b.brace;
      head = head;
      is_entry = is_entry;
      key = longest_there z2 ji jk (below_between frame (ahead_run b.white.run) comma_below) b.key;
      white = longest_there z2 jk jw comma_below b.white;
      comma = char_there z2 jw jc b.comma;
      gap = gap_there z2 jc jf (below_between frame (ahead_fields b.fields) brace_below) b.gap;
      fields = fields_there z2 jf jz brace_below b.fields;
      closes = char_there z2 jz jd b.closes;
      key_is = ap (moved_part move) b.key_is ∙ sym (part_there z2 ji jk (ahead_run b.key.run));
      starts = ap move b.starts;
      ends = ap move b.ends;
    } in (
      record { some = some; within = omega (arith, some, within) },
      entry_edited_read d edit k e e' fits s (omega (arith, start_is, h.sign.next, (len_utf8_bounds 64).0))
          (omega (arith, end_is, from_end.at)) (block_of block),
    )
