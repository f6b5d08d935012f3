-- An entry without a field and without the field's line.
use Rattle.std.proofs.Common.{◌≡◌, inr, ℕ, suc, ◌+◌, ◌-◌, ◌<◌, ◌≤◌, Bool, true, false, cond, List, [], ◌∷◌, ◌++◌, length, map, refl, sym, ap, ◌∙◌, subst, arith, Some}
use Rattle.std.specs.Prelude.{◌==◌, slice_get}
use Rattle.std.specs.List.{remove}
use Rattle.std.specs.Option.{option_map_or}
use Rattle.std.specs.Str.{IsCharBoundary}
use Rattle.std.proofs.lemmas.Str.{len_utf8_ascii, len_utf8_bounds}
use Rattle.bib_text.specs.Places.{Place, place, CharAt}
use Rattle.bib_text.proofs.BoundaryFacts.{Border, char_boundary}
use Rattle.bib_text.proofs.PlaceFacts.{Ahead, ahead_char, ahead_here, ahead_run, ahead_then, char_left, same_place, stops_at, char_within}
use Rattle.bib_syntax.specs.Reading.{EntryReading, FieldReading}
use Rattle.bib_syntax.specs.Grammar.{Field, Fields, Gap, longest}
use Rattle.bib_syntax.specs.Grammar.{Fields as fields}
use Rattle.bib_syntax.specs.Grammar.{Gap as gap}
use Rattle.bib_syntax.proofs.FieldFacts.{ahead_elements, ahead_field, ahead_fields, ahead_gap, elements_stop}
use Rattle.bib_queries.specs.Bytes.{has_byte_at}
use Rattle.edit_entries.specs.Changes.{IsTrimmed, value_end}
use Rattle.edit_entries.specs.Documents.{Document, IsDocument, field_limit}
use Rattle.edit_entries.specs.Edits.{Edit, edited, moved_place, moved_field}
use Rattle.edit_entries.specs.Unset.{after_bytes, comma_after, comma_before, comma_end, end_before, has_comment_beside, is_closed, is_no_line_feed, line_edit}
use Rattle.edit_entries.proofs.EditFacts.{Fits, before_frame, after_frame, moved_after, moved_before, zone_before, zone_after}
use Rattle.edit_entries.proofs.ZoneFacts.{Frame, Inside, Zone, char_there, inside, inside_between, there}
use Rattle.edit_entries.proofs.GrammarFacts.{below_between, below_char, field_there, fields_there, gap_there}
use Rattle.edit_entries.proofs.SplitFacts.{EntrySplit, FieldSplit, FieldsBefore, ahead_fields_after, ahead_file_before, split_fields, split_file}
use Rattle.edit_entries.proofs.EntryFacts.{ahead_to_comma, ahead_to_field, before_or_at, fields_edited_read, goes}
use Rattle.edit_entries.proofs.RemovedFacts.{taken_out}
use Rattle.edit_entries.proofs.FieldsFromFacts.{FieldsFrom, GapAndFields, fields_from, fields_stand}
use Rattle.edit_entries.proofs.GapEndFacts.{gap_found, gap_past}
use Rattle.edit_entries.proofs.UnsetFacts.{field_cut, limit_is, limit_of}
use Rattle.edit_entries.proofs.ValueFacts.{gap_stands}

-- ---- the comma before a field

-- fields with the gaps around them and the commas after them, from one place to another
pub data UpTo : Place → List FieldReading → Place → Type 0 where
  nothing : {u : Place} → UpTo u [] u
  more : {u v w x y z : Place} {f : FieldReading} {fs : List FieldReading} → Gap longest u v → Field longest v f w → Gap longest w x
      → CharAt x 44 y → UpTo y fs z → UpTo u (f ∷ fs) z

ahead_up_to : {u v : Place} {fs : List FieldReading} → UpTo u fs v → Ahead u v
ahead_up_to {u} UpTo.nothing = ahead_here u
ahead_up_to (UpTo.more gap field gap' comma others) =
    ahead_then (ahead_gap gap)
    (ahead_then (ahead_field field) (ahead_then (ahead_gap gap') (ahead_then (ahead_char comma) (ahead_up_to others))))

up_to_there : {f : Frame} {u v : Place} {fs : List FieldReading} → Zone f → Inside f u → Inside f v → UpTo u fs v
    → UpTo (there f u) (map (moved_field f.move) fs) (there f v)
up_to_there z iu iv UpTo.nothing = UpTo.nothing
up_to_there {f} z iu iv (UpTo.more gap field gap' comma others) =
    let from_comma = ahead_then (ahead_char comma) (ahead_up_to others) in
    let from_gap = ahead_then (ahead_gap gap') from_comma in
    let from_field = ahead_then (ahead_field field) from_gap in
    let a = inside_between z iu iv (ahead_gap gap) from_field in
    let b = inside_between z a iv (ahead_field field) from_gap in
    let c = inside_between z b iv (ahead_gap gap') from_comma in
    let d = inside_between z c iv (ahead_char comma) (ahead_up_to others) in
    let below = below_char d comma in
    UpTo.more (gap_there z iu a (below_between f (ahead_then (ahead_field field) (ahead_gap gap')) below) gap)
    (field_there z a b (below_between f (ahead_gap gap') below) field) (gap_there z b c below gap')
    (char_there z c d comma) (up_to_there z d iv others)

joined : {u v w : Place} {fs gs : List FieldReading} → UpTo u fs v → GapAndFields v gs w → GapAndFields u (fs ++ gs) w
joined UpTo.nothing rest = rest
joined (UpTo.more {v = start} gap field gap' comma others) rest =
    let more = joined others rest in
    record { start = start; gap = gap; fields = fields.more field gap' comma more.gap more.fields }

pub last_end : ℕ → List FieldReading → ℕ
last_end end [] = end
last_end end (f ∷ fs) = last_end f.value.end fs

-- the end of the key or value before a field, which is at the byte offset `end`, and the comma after it
pub record CommaBefore (u : Place) (fs : List FieldReading) (end : ℕ) (a : Place) : Type 0 where
  pub from : Place
  pub sign : Place
  pub after : Place
  pub is : from.at ≡ end
  pub gap : Gap longest from sign
  pub comma : CharAt sign 44 after
  pub fields : UpTo u fs after
  pub next : Gap longest after a

comma_found : {k c u v a : Place} {fs : List FieldReading} (end : ℕ) → k.at ≡ end → Gap longest k c → CharAt c 44 u
    → Gap longest u v → FieldsBefore v fs a → CommaBefore u fs (last_end end fs) a
unfolding last_end
comma_found {k} {c} {u} end is gap comma next FieldsBefore.none =
    record { from = k; sign = c; after = u; is = is; gap = gap; comma = comma; fields = UpTo.nothing; next = next }
comma_found end is gap comma next (FieldsBefore.more {f = f} field gap1 comma1 gap2 others) =
    let rest = comma_found f.value.end (sym field.ends) gap1 comma1 gap2 others in
    record {
      from = rest.from;
      sign = rest.sign;
      after = rest.after;
      is = rest.is;
      gap = rest.gap;
      comma = rest.comma;
      fields = UpTo.more next field gap1 comma1 rest.fields;
      next = rest.next;
    }

value_before : (end default : ℕ) (b : FieldReading) (before following : List FieldReading) (f : FieldReading)
    → option_map_or (λ x. x.value.end) (slice_get (b ∷ (before ++ f ∷ following)) (length before)) default
    ≡ last_end end (b ∷ before)
unfolding last_end
value_before end default b [] following f = refl
value_before end default b (c ∷ before) following f = value_before b.value.end default c before following f

end_is : (e : EntryReading) (j : ℕ) (before following : List FieldReading) (f : FieldReading) → e.fields ≡ before ++ f ∷ following
    → length before ≡ j → end_before e j ≡ last_end e.key.end before
unfolding last_end
end_is e j [] following f whole index = ap (end_before e) (sym index)
end_is e j (b ∷ before) following f whole index =
    ap (end_before e) (sym index)
    ∙ ap (λ fs. option_map_or (λ x. x.value.end) (slice_get fs (length before)) e.key.end) whole
    ∙ value_before e.key.end e.key.end b before following f

-- ---- the whole

-- an edit after the comma before a field removes it: the new text parses to the document without the field
pub record LineRemoved (d : Document) (k : ℕ) (e : EntryReading) (j : ℕ) (f : FieldReading) (low : ℕ) (edit : Edit) : Type 0 where
  pub read : IsDocument (field_cut d k e j edit)
  pub past : e.key.end ≤ edit.start
  pub after_comma : low ≤ edit.start
  pub over : f.name.start < edit.end
  pub some : edit.start < edit.end
  pub within : edit.end ≤ e.end
  pub start_cut : IsCharBoundary d.text edit.start
  pub end_cut : IsCharBoundary d.text edit.end

-- the text between the comma before a field and the next part is a gap after the edit
abbrev pub LeftGap : (d : Document) (edit : Edit) (u v w : Place) → Type 0
LeftGap d edit u v w =
    Zone (before_frame edit d.text) → Zone (after_frame edit d.text) → Inside (before_frame edit d.text) u
    → Inside (after_frame edit d.text) v → Inside (after_frame edit d.text) w → w.at < length d.text + 1
    → Gap longest (goes edit d.text u) (goes edit d.text w)

-- an edit from after the comma before a field up to the next fields removes it, if a gap is left between them. A character begins at the
-- start of the edit in the old and in the new text
pub cut_removed : (d : Document) (k : ℕ) (e : EntryReading) (j : ℕ) (f : FieldReading) (edit : Edit)
    → (s : EntrySplit (place d.text 0) d.says e k) → (g : FieldSplit s.block.fields_start e.fields f j s.block.brace)
    → {end : ℕ} → (c : CommaBefore s.block.after_comma g.before end g.start)
    → (r : FieldsFrom d.text edit.end g.following s.block.brace) → (low : ℕ) → c.after.at ≡ low → low ≤ edit.start
    → f.name.start < edit.end → edit.start < edit.end
    → Border (place (edited edit d.text) edit.start) → IsCharBoundary d.text edit.start
    → LeftGap d edit c.after r.from r.rest.start → LineRemoved d k e j f low edit
cut_removed d k e j f edit s g {end} c r low low_is after_comma over some border start_cut gap =
    let text : List ℕ = d.text in
    let past : c.after.at ≤ edit.start = omega (arith, low_is, after_comma) in
    let b = s.block in
    let move = moved_place edit in
    let frame = before_frame edit text in
    let at_comma = ahead_then (ahead_file_before s.first) (ahead_to_comma b) in
    let at_value = ahead_then (ahead_to_field s g) (ahead_field g.field) in
    let at_close = ahead_then at_value (ahead_then (ahead_fields_after g.rest) (ahead_char b.closes)) in
    let up = ahead_up_to c.fields in
    let rest = r.rest in
    let to_brace = ahead_then (ahead_gap rest.gap) (ahead_fields rest.fields) in
    let within : edit.end ≤ length text =
    omega (arith, r.is, to_brace.at, (ahead_char b.closes).at, char_within b.closes, ap length at_close.text) in
    let z2 = zone_after edit text (omega (arith, some)) within in
    let jr : Inside (after_frame edit text) r.from = inside z2 r.same (omega (arith, r.is)) (omega (arith, r.is, within)) in
    let jd : Inside (after_frame edit text) s.end =
    inside z2 at_close.text (omega (arith, r.is, to_brace.at, (ahead_char b.closes).at))
    (omega (arith, char_within b.closes, ap length at_close.text)) in
    let jz = inside_between z2 jr jd to_brace (ahead_char b.closes) in
    let jf = inside_between z2 jr jz (ahead_gap rest.gap) (ahead_fields rest.fields) in
    let below_brace = below_char jd b.closes in
    let below_fields = below_between (after_frame edit text) (ahead_fields rest.fields) below_brace in
    let opens = gap_stands rest.gap (fields_stand rest.fields b.closes).here in
    let fits : Fits edit text = record { ordered = omega (arith, some); within = within; border = border } in
    let z1 = zone_before edit text fits in
    let ix : Inside frame c.after =
    before_or_at edit text (up.text ∙ at_comma.text) past (omega (arith, past, some)) in
    let id : Inside frame b.after_comma =
    before_or_at edit text at_comma.text (omega (arith, up.at, past)) (omega (arith, up.at, past, some)) in
    let rest' : GapAndFields (goes edit text c.after) (map (moved_field move) g.following) (goes edit text b.brace) =
    record {
      start = goes edit text rest.start;
      gap = gap z1 z2 ix jr jf below_fields;
      fields = fields_there z2 jf jz below_brace rest.fields;
    } in
    let all = joined (up_to_there z1 id ix c.fields) rest' in
    let listed : map (moved_field move) g.before ++ map (moved_field move) g.following ≡ remove (map (moved_field move) e.fields) j =
    sym (taken_out (moved_field move) g.before g.following f j g.index) ∙ ap (λ fs. remove (map (moved_field move) fs) j) (sym g.whole) in
    record {
      read =
          fields_edited_read d edit k e (remove (map (moved_field move) e.fields) j) fits s (omega (arith, up.at, past))
          (omega (arith, up.at, past, some)) (omega (arith, r.is, to_brace.at)) all.gap
          (subst (λ fs. Fields longest all.start fs (goes edit text b.brace)) listed all.fields);
      past =
          omega (arith, past, ap (λ p. p.end) b.key_is, (ahead_run b.white.run).at, (ahead_char b.comma).at, up.at);
      after_comma = after_comma;
      over = over;
      some = some;
      within = omega (arith, r.is, to_brace.at, b.ends);
      start_cut = start_cut;
      end_cut =
          subst (λ n. IsCharBoundary text n) r.is (subst (λ t. IsCharBoundary t r.from.at) r.same (char_boundary opens.here));
    }

-- after an edit without new bytes before fields, a character or the end of the text is at its start
pub border_left : (edit : Edit) (text : List ℕ) {fs : List FieldReading} {v w : Place} → edit.bytes ≡ [] → edit.start ≤ edit.end
    → FieldsFrom text edit.end fs v → CharAt v 125 w → Border (place (edited edit text) edit.start)
border_left edit text none ordered r closes =
    let rest = r.rest in
    let opens = gap_stands rest.gap (fields_stand rest.fields closes).here in
    let size : edit.end < length text =
    omega (
      arith,
      r.is,
      opens.here.next,
      (len_utf8_bounds opens.char).0,
      char_within opens.here,
      ap length opens.here.same,
      ap length r.same,
    ) in
    let z2 = zone_after edit text ordered (omega (arith, size)) in
    let jr : Inside (after_frame edit text) r.from = inside z2 r.same (omega (arith, r.is)) (omega (arith, r.is, size)) in
    let jn : Inside (after_frame edit text) opens.next =
    inside z2 (opens.here.same ∙ r.same) (omega (arith, (ahead_char opens.here).at, r.is))
    (omega (arith, char_within opens.here, ap length opens.here.same, ap length r.same)) in
    let rest_goes : moved_place edit r.from.at ≡ edit.start =
    omega (arith, moved_after edit r.from.at (omega (arith, r.is)), r.is, ap length none) in
    inr (
      opens.char,
      goes edit text opens.next,
      subst (λ n. CharAt (place (edited edit text) n) opens.char (goes edit text opens.next)) rest_goes
          (char_there z2 jr jn opens.here),
    )

-- `comma_end` of a field is after the start of the field
pub comma_past : (text : List ℕ) (e : EntryReading) (j : ℕ) (f : FieldReading) {u v : Place} → Field longest u f v
    → u.at < comma_end text e j f
comma_past text e j f {u} field =
    let over =
    ahead_then (ahead_run field.name.rest.run)
    (ahead_then (ahead_run field.white.run) (ahead_then (ahead_char field.sign) (ahead_run field.white'.run))) in
    let first : u.at + 1 < f.value.start =
    omega (
      arith,
      field.name.here.next,
      (len_utf8_bounds field.name.first).0,
      (ahead_run field.name.rest.run).at,
      (ahead_run field.white.run).at,
      field.sign.next,
      (len_utf8_bounds 61).0,
      (ahead_run field.white'.run).at,
      field.starts,
    ) in
    let last : f.value.start ≤ f.value.end = omega (arith, field.starts, field.ends, (ahead_elements field.elements).at) in
    by_case (has_byte_at text (comma_after text e j f) 44) (has_comment_beside text f) (has_byte_at text (n - 1) 13)
    (gap_past text f.value.end (field_limit e j)) first last
  where
    n : ℕ
    n = after_bytes is_no_line_feed text f.value.end (field_limit e j)

    by_case : (comma own cr : Bool) → f.value.end ≤ comma_after text e j f → u.at + 1 < f.value.start → f.value.start ≤ f.value.end
        → u.at < cond comma (comma_after text e j f + 1) (cond own (cond cr (n - 1) n) (value_end text f))
    by_case true own cr past first last = omega (arith, past, first, last)
    by_case false true true past first last = omega (arith, first, last)
    by_case false true false past first last = omega (arith, first, last)
    by_case false false cr past first last = omega (arith, first)

-- the place of a field in its entry, with the comma before it
pub record Preceded (d : Document) (k : ℕ) (e : EntryReading) (j : ℕ) (f : FieldReading) : Type 0 where
  pub s : EntrySplit (place d.text 0) d.says e k
  pub g : FieldSplit s.block.fields_start e.fields f j s.block.brace
  pub c : CommaBefore s.block.after_comma g.before (last_end e.key.end g.before) g.start
  pub from : c.from ≡ place d.text (end_before e j)
  pub value : g.end ≡ place d.text f.value.end

pub preceded : (d : Document) (k : ℕ) (e : EntryReading) (j : ℕ) (f : FieldReading) → IsDocument d
    → slice_get d.says.entries k ≡ Some e → slice_get e.fields j ≡ Some f → Preceded d k e j f
preceded d k e j f read here there' =
    let text : List ℕ = d.text in
    let s = split_file k e read here in
    let b = s.block in
    let g = split_fields j f b.fields there' in
    let at_comma = ahead_then (ahead_file_before s.first) (ahead_to_comma b) in
    let at_value = ahead_then (ahead_to_field s g) (ahead_field g.field) in
    let key_gap = gap.white b.white (stops_at (λ c. c == 37) b.comma refl) in
    let c = comma_found e.key.end (sym (ap (λ p. p.end) b.key_is)) key_gap b.comma b.gap g.first in
    let ends : c.from.at ≡ end_before e j = c.is ∙ sym (end_is e j g.before g.following f g.whole g.index) in
    let at_after = ahead_then at_comma (ahead_up_to c.fields) in
    let from_text : c.from.text ≡ text = sym ((ahead_then (ahead_gap c.gap) (ahead_char c.comma)).text) ∙ at_after.text in
    record {
      s = s;
      g = g;
      c = c;
      from = same_place {u = c.from} {v = place text (end_before e j)} from_text ends;
      value = same_place {u = g.end} {v = place text f.value.end} at_value.text (sym g.field.ends);
    }

-- the key or value before a field ends before the field begins, and the name of the field begins before its value
pub before_name : (d : Document) (k : ℕ) (e : EntryReading) (j : ℕ) (f : FieldReading) → IsDocument d
    → slice_get d.says.entries k ≡ Some e → slice_get e.fields j ≡ Some f
    → (end_before e j < f.name.start) × (f.name.start < f.value.start)
before_name d k e j f read here there' =
    let a = preceded d k e j f read here there' in
    let field = a.g.field in
    let name_is = ap (λ p. p.start) field.name.reading in (
      omega (
        arith,
        ap (λ p. p.at) a.from,
        (ahead_gap a.c.gap).at,
        a.c.comma.next,
        (len_utf8_bounds 44).0,
        (ahead_gap a.c.next).at,
        name_is,
      ),
      omega (
        arith,
        name_is,
        field.name.here.next,
        (len_utf8_bounds field.name.first).0,
        (ahead_run field.name.rest.run).at,
        (ahead_run field.white.run).at,
        (ahead_char field.sign).at,
        (ahead_run field.white'.run).at,
        field.starts,
      ),
    )

-- the comma before a field is at `comma_before`, if a comma is there
pub comma_place : (d : Document) (k : ℕ) (e : EntryReading) (j : ℕ) (f : FieldReading) → (a : Preceded d k e j f)
    → has_byte_at d.text (comma_before d.text e j f) 44 ≡ true → a.c.after ≡ place d.text (comma_before d.text e j f + 1)
comma_place d k e j f a comma =
    let text : List ℕ = d.text in
    let c = a.c in
    let to_name = ahead_then (ahead_char c.comma) (ahead_gap c.next) in
    let name_is = ap (λ p. p.start) a.g.field.name.reading in
    let name_text : a.g.start.text ≡ text = (ahead_then (ahead_gap c.gap) to_name).text ∙ ap (λ p. p.text) a.from in
    let name_within : f.name.start ≤ length text = omega (arith, name_is, char_left a.g.field.name.here, ap length name_text) in
    let sign_is : c.sign ≡ place text (comma_before text e j f) =
    gap_found text (end_before e j) f.name.start 44 (subst (λ p. Gap longest p c.sign) a.from c.gap) c.comma
    (omega (arith, to_name.at, name_is)) name_within (omega arith) refl refl comma in
    same_place {u = c.after} {v = place text (comma_before text e j f + 1)} (c.comma.same ∙ ap (λ p. p.text) sign_is)
    (omega (arith, c.comma.next, len_utf8_ascii 44 (omega arith), ap (λ p. p.at) sign_is))

-- the comma before a field, which ends at the byte offset `start`, and the following fields, from the byte offset `end` on
pub record Surroundings (d : Document) (k : ℕ) (e : EntryReading) (j : ℕ) (f : FieldReading) (start end : ℕ) : Type 0 where
  pub s : EntrySplit (place d.text 0) d.says e k
  pub g : FieldSplit s.block.fields_start e.fields f j s.block.brace
  pub c : CommaBefore s.block.after_comma g.before (last_end e.key.end g.before) g.start
  pub r : FieldsFrom d.text end g.following s.block.brace
  pub after : c.after ≡ place d.text start

pub surroundings : (d : Document) (k : ℕ) (e : EntryReading) (j : ℕ) (f : FieldReading) → IsDocument d
    → slice_get d.says.entries k ≡ Some e → slice_get e.fields j ≡ Some f → IsTrimmed d.text f
    → has_byte_at d.text (comma_before d.text e j f) 44 ≡ true → is_closed d.text e j f ≡ true
    → Surroundings d k e j f (comma_before d.text e j f + 1) (comma_end d.text e j f)
surroundings d k e j f read here there' trimmed comma closed =
    let a = preceded d k e j f read here there' in
    let limit : field_limit e j ≡ limit_of a.g.following a.s.block.brace.at =
    ap (λ fs. option_map_or (λ h. h.name.start) (slice_get fs (suc j)) e.end) a.g.whole
    ∙ limit_is a.g.before a.g.following f j e.end a.g.index ∙ ap (limit_of a.g.following) a.s.block.ends in
    record {
      s = a.s;
      g = a.g;
      c = a.c;
      r = fields_from d.text e j f a.value (elements_stop a.g.field.elements).0 trimmed limit closed a.g.rest a.s.block.closes;
      after = comma_place d k e j f a comma;
    }

-- `comma_end` is at or before the end of the entry, if a comma is found before the field, and a comma or a closing brace after it
pub comma_within : (d : Document) (k : ℕ) (e : EntryReading) (j : ℕ) (f : FieldReading) → IsDocument d
    → slice_get d.says.entries k ≡ Some e → slice_get e.fields j ≡ Some f → IsTrimmed d.text f
    → has_byte_at d.text (comma_before d.text e j f) 44 ≡ true → is_closed d.text e j f ≡ true → comma_end d.text e j f ≤ e.end
comma_within d k e j f read here there' trimmed comma closed =
    let a = surroundings d k e j f read here there' trimmed comma closed in
    omega (arith, a.r.is, (ahead_gap a.r.rest.gap).at, (ahead_fields a.r.rest.fields).at, a.s.block.ends)

-- an edit from after the comma before a field to the following fields removes the field
pub line_cut : (d : Document) (k : ℕ) (e : EntryReading) (j : ℕ) (f : FieldReading) (start end : ℕ) → Surroundings d k e j f start end
    → start < end → f.name.start < end → LineRemoved d k e j f start (record { start = start; end = end; bytes = [] })
line_cut d k e j f start end a some over =
    let text : List ℕ = d.text in
    let edit : Edit = record { start = start; end = end; bytes = [] } in
    let start_is : a.c.after.at ≡ edit.start = ap (λ p. p.at) a.after in
    let starts = gap_stands a.c.next a.g.field.name.here in
    cut_removed d k e j f edit a.s a.g a.c a.r start start_is (omega arith) over some
    (border_left edit text refl (omega (arith, some)) a.r a.s.block.closes)
    (subst (λ p. IsCharBoundary p.text p.at) a.after (char_boundary starts.here))
    (λ z1 z2 ix jr jf below.
    let after_goes = moved_before edit a.c.after.at (omega (arith, start_is, some)) in
    let rest_goes = moved_after edit a.r.from.at (omega (arith, a.r.is)) in
    let same : moved_place edit a.r.from.at ≡ moved_place edit a.c.after.at = omega (arith, after_goes, rest_goes, start_is, a.r.is) in
    subst (λ n. Gap longest (place (edited edit text) n) (goes edit text a.r.rest.start)) same (gap_there z2 jr jf below a.r.rest.gap))

pub line_removed : (d : Document) (k : ℕ) (e : EntryReading) (j : ℕ) (f : FieldReading) → IsDocument d
    → slice_get d.says.entries k ≡ Some e → slice_get e.fields j ≡ Some f → IsTrimmed d.text f
    → has_byte_at d.text (comma_before d.text e j f) 44 ≡ true → is_closed d.text e j f ≡ true
    → LineRemoved d k e j f (comma_before d.text e j f + 1) (line_edit d.text e j f)
line_removed d k e j f read here there' trimmed comma closed =
    let a = surroundings d k e j f read here there' trimmed comma closed in
    let past = comma_past d.text e j f a.g.field in
    line_cut d k e j f (comma_before d.text e j f + 1) (comma_end d.text e j f) a
    (omega (arith, ap (λ p. p.at) a.after, (ahead_gap a.c.next).at, past))
    (omega (arith, ap (λ p. p.start) a.g.field.name.reading, past))
