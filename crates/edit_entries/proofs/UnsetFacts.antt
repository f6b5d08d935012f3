-- An entry without one of its fields.
use Rattle.std.proofs.Common.{◌≡◌, inr, ℕ, zero, suc, ◌<◌, ◌≤◌, true, false, List, [], ◌∷◌, ◌++◌, length, map, refl, sym, ap, ◌∙◌, subst, arith, Some}
use Rattle.std.specs.Prelude.{◌==◌, slice_get}
use Rattle.std.specs.Char.{is_whitespace}
use Rattle.std.specs.List.{remove}
use Rattle.std.specs.Option.{option_map_or}
use Rattle.std.specs.Str.{IsCharBoundary}
use Rattle.std.proofs.lemmas.Bool.{ne_eqb}
use Rattle.std.proofs.lemmas.Str.{len_utf8_bounds}
use Rattle.bib_text.specs.Places.{Place, place, CharAt, Stops}
use Rattle.bib_text.specs.Places.Run.{stop}
use Rattle.bib_text.proofs.PlaceFacts.{Ahead, ahead_char, ahead_run, ahead_then, stops_at, test_clash, char_within}
use Rattle.bib_syntax.specs.Characters.{is_id_start}
use Rattle.bib_syntax.specs.Reading.{EntryReading, FieldReading}
use Rattle.bib_syntax.specs.Grammar.{Fields, Gap, longest}
use Rattle.bib_syntax.specs.Grammar.{Fields as fields}
use Rattle.bib_syntax.proofs.FieldFacts.{ahead_elements, ahead_field, ahead_fields, ahead_gap}
use Rattle.bib_syntax.proofs.LawFacts.{start_not_white, start_plain}
use Rattle.edit_entries.specs.Edits.{Edit, edited, moved_place, moved_entry, moved_field}
use Rattle.edit_entries.specs.Documents.{Document, IsDocument, entry_edited, field_edit, field_limit}
use Rattle.edit_entries.specs.Placed.{AreFieldsPlaced}
use Rattle.edit_entries.proofs.EditFacts.{Fits, before_frame, after_frame, moved_after, moved_before, zone_before, zone_after}
use Rattle.edit_entries.proofs.ZoneFacts.{Frame, Inside, Zone, char_there, inside, inside_between, there}
use Rattle.edit_entries.proofs.GrammarFacts.{below_between, below_char, field_there, fields_there, gap_there, gap_until}
use Rattle.edit_entries.proofs.SplitFacts.{EntrySplit, FieldSplit, FieldsAfter, FieldsBefore, ahead_fields_after, ahead_fields_before, ahead_file_before, split_fields, split_file}
use Rattle.edit_entries.proofs.EntryFacts.{ahead_to_comma, ahead_to_field, before_or_at, fields_edited_read, goes}
use Rattle.edit_entries.proofs.RemovedFacts.{taken_out}
use Rattle.bib_text.proofs.BoundaryFacts.{char_boundary}

-- ---- the document without one field of an entry

-- the document after an edit that removes a field of an entry
abbrev pub field_cut : Document → ℕ → EntryReading → ℕ → Edit → Document
field_cut d k e j edit =
    entry_edited d edit k (record (moved_entry (moved_place edit) e) { fields = remove (map (moved_field (moved_place edit)) e.fields) j })

-- the document after the edit that removes a field up to the next field or the closing brace
abbrev pub field_removed : Document → ℕ → EntryReading → ℕ → FieldReading → Document
field_removed d k e j f = field_cut d k e j (field_edit e j f)

-- ---- the fields after a field

unfoldable pub limit_of : List FieldReading → ℕ → ℕ
limit_of [] end = end
limit_of (f ∷ fs) end = f.name.start

-- the fields after one: they begin at `limit_of`, with a character that is neither white space nor `%`
record RestFields (u : Place) (fs : List FieldReading) (v : Place) : Type 0 where
  start : Place
  before : Ahead u start
  fields : Fields longest start fs v
  char : ℕ
  next : Place
  here : CharAt start char next
  dark : is_whitespace char ≡ false
  plain : (char == 37) ≡ false
  limit : limit_of fs v.at ≡ start.at

pub start_line : (c : ℕ) → is_id_start c ≡ true → (c == 10) ≡ false
start_line c starts = ne_eqb c 10 (λ same. test_clash (is_id_start 10) (subst (λ x. is_id_start x ≡ true) same starts) refl)

at_brace : {u v w : Place} → Ahead u v → CharAt v 125 w → RestFields u [] v
unfolding limit_of
at_brace {u} {v} {w} ahead closes = record {
  start = v;
  before = ahead;
  fields = fields.none (record { run = stop; stops = stops_at is_whitespace closes refl });
  char = 125;
  next = w;
  here = closes;
  dark = refl;
  plain = refl;
  limit = refl;
}

from_fields : {u v x w : Place} {fs : List FieldReading} → Ahead u x → Ahead x v → Fields longest x fs v
    → CharAt v 125 w → RestFields u fs v
unfolding limit_of
from_fields ahead over (fields.none white) closes = at_brace (ahead_then ahead over) closes
from_fields {x = x} ahead over (fields.last field gap) closes =
    let name = field.name in
    record {
      start = x;
      before = ahead;
      fields = fields.last field gap;
      char = name.first;
      next = name.second;
      here = name.here;
      dark = start_not_white name.first name.starts;
      plain = start_plain name.first name.starts;
      limit = ap (λ p. p.start) name.reading;
    }
from_fields {x = x} ahead over (fields.more field gap comma gap' rest) closes =
    let name = field.name in
    record {
      start = x;
      before = ahead;
      fields = fields.more field gap comma gap' rest;
      char = name.first;
      next = name.second;
      here = name.here;
      dark = start_not_white name.first name.starts;
      plain = start_plain name.first name.starts;
      limit = ap (λ p. p.start) name.reading;
    }

rest_fields : {u v w : Place} {fs : List FieldReading} → FieldsAfter u fs v → CharAt v 125 w → RestFields u fs v
rest_fields (FieldsAfter.last gap) closes = at_brace (ahead_gap gap) closes
rest_fields (FieldsAfter.more gap comma gap' rest) closes =
    from_fields (ahead_then (ahead_gap gap) (ahead_then (ahead_char comma) (ahead_gap gap'))) (ahead_fields rest) rest
    closes

-- `limit_of` the following fields is the byte offset of the next field, or else of the closing brace
pub limit_is : (before following : List FieldReading) (f : FieldReading) (j end : ℕ) → length before ≡ j
    → option_map_or (λ g. g.name.start) (slice_get (before ++ f ∷ following) (suc j)) end ≡ limit_of following end
unfolding limit_of
limit_is [] [] f zero end index = refl
limit_is [] (g ∷ gs) f zero end index = refl
limit_is [] following f (suc j) end index = absurd (omega arith)
limit_is (b ∷ bs) following f zero end index = absurd (omega arith)
limit_is (b ∷ bs) following f (suc j) end index = limit_is bs following f j end (omega arith)

-- ---- the fields before a field, in the new text

joined_rest : {u a v : Place} {before fs : List FieldReading} → FieldsBefore u before a → Fields longest a fs v
    → Fields longest u (before ++ fs) v
joined_rest FieldsBefore.none rest = rest
joined_rest (FieldsBefore.more field gap comma gap' others) rest = fields.more field gap comma gap' (joined_rest others rest)

gap_before : {f : Frame} {u v w x : Place} {c : ℕ} {fs : List FieldReading} → Zone f → Inside f u → Inside f v
    → Inside f w → CharAt w c x → (c == 10) ≡ false → Stops is_whitespace (there f w) → Stops (λ d. d == 37) (there f w)
    → Gap longest u v → FieldsBefore v fs w → Gap longest (there f u) (there f v)
gap_before z iu iv iw char other white stops gap FieldsBefore.none = gap_until z iu iv char other white stops gap
gap_before {f} z iu iv iw char other white stops gap (FieldsBefore.more field gap1 comma gap2 others) =
    let over = ahead_then (ahead_field field) (ahead_gap gap1) in
    gap_there z iu iv
    (omega (
      arith,
      over.at,
      comma.next,
      (len_utf8_bounds 44).0,
      (ahead_gap gap2).at,
      (ahead_fields_before others).at,
      iw.end,
    )) gap

fields_before_until : {f : Frame} {u v x : Place} {c : ℕ} {fs : List FieldReading} → Zone f → Inside f u → Inside f v
    → CharAt v c x → (c == 10) ≡ false → Stops is_whitespace (there f v) → Stops (λ d. d == 37) (there f v)
    → FieldsBefore u fs v → FieldsBefore (there f u) (map (moved_field f.move) fs) (there f v)
fields_before_until z iu iv char other white stops FieldsBefore.none = FieldsBefore.none
fields_before_until {f} z iu iv char other white stops (FieldsBefore.more field gap comma gap' others) =
    let from_gap = ahead_then (ahead_gap gap') (ahead_fields_before others) in
    let from_comma = ahead_then (ahead_char comma) from_gap in
    let a = inside_between z iu iv (ahead_field field) (ahead_then (ahead_gap gap) from_comma) in
    let b = inside_between z a iv (ahead_gap gap) from_comma in
    let c = inside_between z b iv (ahead_char comma) from_gap in
    let d = inside_between z c iv (ahead_gap gap') (ahead_fields_before others) in
    FieldsBefore.more (field_there z iu a (below_between f (ahead_gap gap) (below_char c comma)) field)
    (gap_there z a b (below_char c comma) gap)
    (char_there z b c comma) (gap_before z c d iv char other white stops gap' others)
    (fields_before_until z d iv char other white stops others)

-- an edit from the start of a field on gives an entry with other fields, if these parse. A character that is neither white space nor `%`
-- must be at the start of the edit.
pub from_field_read : (d : Document) (edit : Edit) (k : ℕ) (e : EntryReading) (j : ℕ) (f : FieldReading) (news : List FieldReading)
    {c : ℕ} {next : Place} → (s : EntrySplit (place d.text 0) d.says e k)
    → (g : FieldSplit s.block.fields_start e.fields f j s.block.brace) → edit.start ≡ g.start.at → edit.start < edit.end
    → edit.end ≤ s.block.brace.at → CharAt (goes edit d.text g.start) c next → is_whitespace c ≡ false → (c == 37) ≡ false
    → (FieldsBefore (goes edit d.text s.block.fields_start) (map (moved_field (moved_place edit)) g.before) (goes edit d.text g.start)
    → Fields longest (goes edit d.text s.block.fields_start) news (goes edit d.text s.block.brace))
    → IsDocument (entry_edited d edit k (record (moved_entry (moved_place edit) e) { fields = news }))
from_field_read d edit k e j f news {c} {next} s g start_is some past char dark plain list =
    let b = s.block in
    let frame = before_frame edit d.text in
    let to_comma = ahead_then (ahead_file_before s.first) (ahead_to_comma b) in
    let from_fields = ahead_fields_before g.first in
    let from_comma = ahead_then (ahead_gap b.gap) from_fields in
    let at_field = ahead_to_field s g in
    let to_brace = ahead_then (ahead_field g.field) (ahead_fields_after g.rest) in
    let field_is : moved_place edit g.start.at ≡ edit.start =
    moved_before edit g.start.at (omega (arith, start_is, some)) ∙ sym start_is in
    let fits : Fits edit d.text = record {
      ordered = omega (arith, some);
      within =
          omega (
            arith,
            past,
            (ahead_char b.closes).at,
            char_within b.closes,
            ap length (b.closes.same ∙ to_brace.text ∙ at_field.text),
          );
      border = inr (c, next, subst (λ n. CharAt (place (edited edit d.text) n) c next) field_is char);
    } in
    let z1 = zone_before edit d.text fits in
    let id : Inside frame b.after_comma =
    before_or_at edit d.text to_comma.text (omega (arith, from_comma.at, start_is)) (omega (arith, from_comma.at, start_is, some)) in
    let iv : Inside frame g.start = before_or_at edit d.text at_field.text (omega (arith, start_is)) (omega (arith, start_is, some)) in
    let ie = inside_between z1 id iv (ahead_gap b.gap) from_fields in
    let name = g.field.name in
    let white = stops_at is_whitespace char dark in
    let stops = stops_at (λ d. d == 37) char plain in
    let other = start_line name.first name.starts in
    fields_edited_read d edit k e news fits s (omega (arith, from_comma.at, start_is)) (omega (arith, from_comma.at, start_is, some)) past
    (gap_before z1 id ie iv name.here other white stops b.gap g.first)
    (list (fields_before_until z1 ie iv name.here other white stops g.first))

pub field_removed_read : (d : Document) (k : ℕ) (e : EntryReading) (j : ℕ) (f : FieldReading) → IsDocument d
    → slice_get d.says.entries k ≡ Some e → slice_get e.fields j ≡ Some f → IsDocument (field_removed d k e j f)
field_removed_read d k e j f read here there' =
    let s = split_file k e read here in
    let b = s.block in
    let g = split_fields j f b.fields there' in
    let r = rest_fields g.rest b.closes in
    let edit : Edit = field_edit e j f in
    let move = moved_place edit in
    let new : List ℕ = edited edit d.text in
    let name = g.field.name in
    let at_field = ahead_to_field s g in
    let over_name =
    ahead_then (ahead_run name.rest.run)
    (ahead_then (ahead_run g.field.white.run)
    (ahead_then (ahead_char g.field.sign)
    (ahead_then (ahead_run g.field.white'.run) (ahead_elements g.field.elements)))) in
    let at_rest = ahead_then at_field (ahead_then (ahead_field g.field) r.before) in
    let at_close = ahead_then at_rest (ahead_then (ahead_fields r.fields) (ahead_char b.closes)) in
    let start_is : edit.start ≡ g.start.at = ap (λ p. p.start) name.reading in
    let limit : field_limit e j ≡ limit_of g.following e.end =
    ap (λ fs. option_map_or (λ h. h.name.start) (slice_get fs (suc j)) e.end) g.whole
    ∙ limit_is g.before g.following f j e.end g.index in
    let end_is : edit.end ≡ r.start.at = limit ∙ ap (limit_of g.following) b.ends ∙ r.limit in
    let some : edit.start < edit.end =
    omega (arith, start_is, end_is, name.here.next, (len_utf8_bounds name.first).0, over_name.at, r.before.at) in
    let past : edit.end ≤ b.brace.at = omega (arith, end_is, (ahead_fields r.fields).at) in
    let closing = char_within b.closes in
    let text_size : length s.end.text ≡ length d.text = ap length at_close.text in
    let to_close : r.start.at ≤ s.end.at = omega (arith, (ahead_fields r.fields).at, (ahead_char b.closes).at) in
    let within : edit.end ≤ length d.text = omega (arith, end_is) in
    let z2 = zone_after edit d.text (omega (arith, some)) within in
    let jr : Inside (after_frame edit d.text) r.start = inside z2 at_rest.text (omega (arith, end_is)) (omega arith) in
    let jd : Inside (after_frame edit d.text) s.end = inside z2 at_close.text (omega (arith, end_is)) (omega arith) in
    let jz = inside_between z2 jr jd (ahead_fields r.fields) (ahead_char b.closes) in
    let jn : Inside (after_frame edit d.text) r.next =
    inside z2 (r.here.same ∙ at_rest.text) (omega (arith, (ahead_char r.here).at, end_is))
    (omega (arith, char_within r.here, ap length r.here.same, ap length at_rest.text)) in
    let rest_is : move r.start.at ≡ edit.start = omega (arith, moved_after edit r.start.at (omega (arith, end_is)), end_is) in
    let field_is : move g.start.at ≡ edit.start = moved_before edit g.start.at (omega (arith, start_is, some)) ∙ sym start_is in
    let same : move r.start.at ≡ move g.start.at = rest_is ∙ sym field_is in
    let char : CharAt (goes edit d.text g.start) r.char (goes edit d.text r.next) =
    subst (λ n. CharAt (place new n) r.char (goes edit d.text r.next)) same (char_there z2 jr jn r.here) in
    let rest : Fields longest (goes edit d.text g.start) (map (moved_field move) g.following) (goes edit d.text b.brace) =
    subst (λ n. Fields longest (place new n) (map (moved_field move) g.following) (goes edit d.text b.brace)) same
    (fields_there z2 jr jz (below_char jd b.closes) r.fields) in
    let listed : map (moved_field move) g.before ++ map (moved_field move) g.following ≡ remove (map (moved_field move) e.fields) j =
    sym (taken_out (moved_field move) g.before g.following f j g.index) ∙ ap (λ fs. remove (map (moved_field move) fs) j) (sym g.whole) in
    from_field_read d edit k e j f (remove (map (moved_field move) e.fields) j) s g start_is some past char r.dark r.plain (λ before.
    subst (λ fs. Fields longest (goes edit d.text b.fields_start) fs (goes edit d.text b.brace)) listed (joined_rest before rest))

-- each field of an entry may be cut out, up to the next one or the closing brace
pub fields_placed : (d : Document) (k : ℕ) (e : EntryReading) → IsDocument d → slice_get d.says.entries k ≡ Some e
    → AreFieldsPlaced d.text e
fields_placed d k e read here j f there' =
    let s = split_file k e read here in
    let b = s.block in
    let g = split_fields j f b.fields there' in
    let r = rest_fields g.rest b.closes in
    let at_field = ahead_to_field s g in
    let over = ahead_then (ahead_field g.field) r.before in
    let start_is : f.name.start ≡ g.start.at = ap (λ p. p.start) g.field.name.reading in
    let limit : field_limit e j ≡ limit_of g.following e.end =
    ap (λ fs. option_map_or (λ h. h.name.start) (slice_get fs (suc j)) e.end) g.whole
    ∙ limit_is g.before g.following f j e.end g.index in
    let end_is : field_limit e j ≡ r.start.at = limit ∙ ap (limit_of g.following) b.ends ∙ r.limit in
    record {
      ordered = omega (arith, start_is, end_is, over.at);
      start =
          subst (λ n. IsCharBoundary d.text n) (sym start_is)
          (subst (λ t. IsCharBoundary t g.start.at) at_field.text (char_boundary g.field.name.here));
      end =
          subst (λ n. IsCharBoundary d.text n) (sym end_is)
          (subst (λ t. IsCharBoundary t r.start.at) (ahead_then at_field over).text (char_boundary r.here));
    }

-- a field begins before the next field or the closing brace
pub limit_past : (d : Document) (k : ℕ) (e : EntryReading) (j : ℕ) (f : FieldReading) → IsDocument d
    → slice_get d.says.entries k ≡ Some e → slice_get e.fields j ≡ Some f → f.name.start < field_limit e j
limit_past d k e j f read here there' =
    let s = split_file k e read here in
    let b = s.block in
    let g = split_fields j f b.fields there' in
    let r = rest_fields g.rest b.closes in
    let name = g.field.name in
    let over_name =
    ahead_then (ahead_run name.rest.run)
    (ahead_then (ahead_run g.field.white.run)
    (ahead_then (ahead_char g.field.sign)
    (ahead_then (ahead_run g.field.white'.run) (ahead_elements g.field.elements)))) in
    let limit : field_limit e j ≡ limit_of g.following e.end =
    ap (λ fs. option_map_or (λ h. h.name.start) (slice_get fs (suc j)) e.end) g.whole
    ∙ limit_is g.before g.following f j e.end g.index in
    omega (
      arith,
      ap (λ p. p.start) name.reading,
      limit,
      ap (limit_of g.following) b.ends,
      r.limit,
      name.here.next,
      (len_utf8_bounds name.first).0,
      over_name.at,
      r.before.at,
    )

-- each of these fields ends at or before the place after them
before_ends : {u v : Place} {fs : List FieldReading} (i : ℕ) (f : FieldReading) → FieldsBefore u fs v
    → slice_get fs i ≡ Some f → f.value.end ≤ v.at
before_ends i f FieldsBefore.none found = absurd (cc)
before_ends zero f (FieldsBefore.more {f = g} field gap comma gap' others) found =
    let same : g ≡ f = cc in
    omega (
      arith,
      ap (λ x. x.value.end) same,
      field.ends,
      (ahead_gap gap).at,
      (ahead_char comma).at,
      (ahead_gap gap').at,
      (ahead_fields_before others).at,
    )
before_ends (suc i) f (FieldsBefore.more field gap comma gap' others) found = before_ends i f others found

get_before : (xs ys : List FieldReading) (i : ℕ) → i < length xs → slice_get (xs ++ ys) i ≡ slice_get xs i
get_before [] ys i within = absurd (omega arith)
get_before (x ∷ xs) ys zero within = refl
get_before (x ∷ xs) ys (suc i) within = get_before xs ys i (omega arith)

pub ends_before : (d : Document) (k : ℕ) (e : EntryReading) (i j : ℕ) (f g : FieldReading) → IsDocument d
    → slice_get d.says.entries k ≡ Some e → i < j → slice_get e.fields i ≡ Some f → slice_get e.fields j ≡ Some g
    → f.value.end ≤ g.name.start
ends_before d k e i j f g read here less first second =
    let b = (split_file k e read here).block in
    let s = split_fields j g b.fields second in
    let listed : slice_get s.before i ≡ Some f =
    sym (get_before s.before (g ∷ s.following) i (omega (arith, s.index))) ∙ ap (λ l. slice_get l i) (sym s.whole)
    ∙ first in
    omega (arith, before_ends i f s.first listed, ap (λ p. p.start) s.field.name.reading)
