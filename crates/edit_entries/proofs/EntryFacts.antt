-- A text after an edit in one of its entries, or in one field of an entry.
use Rattle.std.proofs.Common.{◌≡◌, ℕ, ◌+◌, ◌<◌, ◌≤◌, List, ◌∷◌, ◌++◌, length, map, refl, sym, ap, ◌∙◌, subst, arith}
use Rattle.std.specs.Prelude.{slice_set}
use Rattle.std.proofs.lemmas.Str.{len_utf8_bounds}
use Rattle.bib_text.specs.Places.{Place, place}
use Rattle.bib_text.proofs.PlaceFacts.{Ahead, ahead_then, ahead_char, ahead_run, char_within}
use Rattle.bib_syntax.specs.Reading.{FieldReading, EntryReading, FileReading}
use Rattle.bib_syntax.specs.Kept.{entry_alone}
use Rattle.bib_syntax.specs.Grammar.{Field, Fields, Block, File, Gap, longest}
use Rattle.bib_syntax.specs.Grammar.{File as file}
use Rattle.bib_syntax.proofs.FieldFacts.{ahead_field, ahead_gap, ahead_fields}
use Rattle.bib_syntax.proofs.FileFacts.{ahead_head}
use Rattle.edit_entries.specs.Edits.{Edit, edited, moved_place, moved_part, moved_field, moved_entry, moved_file}
use Rattle.edit_entries.specs.Documents.{Document, IsDocument, entry_edited, field_edited}
use Rattle.edit_entries.proofs.EditFacts.{Fits, before_frame, after_frame, moved_before, length-edited, zone_before, zone_after}
use Rattle.edit_entries.proofs.ZoneFacts.{Inside, inside, inside_between, char_there, longest_there, part_there}
use Rattle.edit_entries.proofs.GrammarFacts.{below_between, below_char, gap_there, head_there}
use Rattle.edit_entries.proofs.SplitFacts.{EntryBlock, EntrySplit, FieldSplit, ahead_fields_before, ahead_fields_after, ahead_file_before, block_of, joined_fields, joined_file}
use Rattle.edit_entries.proofs.MovedFacts.{exchanged, fields_before_there, fields_after_there, file_before_there, file_there, says_exchanged}

-- the place in the edited text of a place of the old text
abbrev pub goes : Edit → List ℕ → Place → Place
goes edit text u = place (edited edit text) (moved_place edit u.at)

-- a place before the stretch is in the zone before it
pub before_stretch : (edit : Edit) (text : List ℕ) {u : Place} → Fits edit text → u.text ≡ text → u.at < edit.start
    → Inside (before_frame edit text) u
before_stretch edit text fits same before = inside (zone_before edit text fits) same (omega arith) before

pub after_stretch : (edit : Edit) (text : List ℕ) {u : Place} → Fits edit text → u.text ≡ text → edit.end ≤ u.at
    → u.at ≤ length u.text → Inside (after_frame edit text) u
after_stretch edit text {u} fits same past within =
    let size : length u.text ≡ length text = ap length same in
    inside (zone_after edit text fits.ordered fits.within) same past (omega arith)

-- a place before the end of the stretch and not after its start is in the zone before it
pub before_or_at : (edit : Edit) (text : List ℕ) {u : Place} → u.text ≡ text → u.at ≤ edit.start → u.at < edit.end
    → Inside (before_frame edit text) u
before_or_at edit text {u} same before below =
    record { text = same; start = omega arith; end = before; moved = ap (λ n. n + 0) (moved_before edit u.at below) }

-- the comma after the key of an entry ends at or after the start of the entry
pub ahead_to_comma : {u v : Place} {e : EntryReading} → (b : EntryBlock u e v) → Ahead u b.after_comma
ahead_to_comma b =
    ahead_then (ahead_head b.head) (ahead_then (ahead_run b.key.run) (ahead_then (ahead_run b.white.run) (ahead_char b.comma)))

pub ahead_to_fields : {u v : Place} {e : EntryReading} → (b : EntryBlock u e v) → Ahead u b.fields_start
ahead_to_fields b = ahead_then (ahead_to_comma b) (ahead_gap b.gap)

pub ahead_entry : {u v : Place} {e : EntryReading} → EntryBlock u e v → Ahead u v
ahead_entry b = ahead_then (ahead_to_fields b) (ahead_then (ahead_fields b.fields) (ahead_char b.closes))

-- a field begins at or after the start of the file
pub ahead_to_field : {u : Place} {says : FileReading} {e : EntryReading} {f : FieldReading} {j k : ℕ} → (s : EntrySplit u says e k)
    → (g : FieldSplit s.block.fields_start e.fields f j s.block.brace) → Ahead u g.start
ahead_to_field s g = ahead_then (ahead_file_before s.first) (ahead_then (ahead_to_fields s.block) (ahead_fields_before g.first))

-- if the stretch is in an entry and the new text has another entry there, it parses to the document with the other entry. The stretch
-- begins after the start of the entry
pub entry_edited_read : (d : Document) (edit : Edit) (k : ℕ) (e e' : EntryReading) → Fits edit d.text
    → (s : EntrySplit (place d.text 0) d.says e k) → s.start.at < edit.start → edit.end ≤ s.end.at
    → Block longest (goes edit d.text s.start) (entry_alone e') (goes edit d.text s.end) → IsDocument (entry_edited d edit k e')
entry_edited_read d edit k e e' fits s before past block =
    let to_start = ahead_file_before s.first in
    let to_end = ahead_then to_start (ahead_entry s.block) in
    let z1 = zone_before edit d.text fits in
    let z2 = zone_after edit d.text fits.ordered fits.within in
    let first : Inside (before_frame edit d.text) (place d.text 0) = before_stretch edit d.text fits refl (omega arith) in
    let start : Inside (before_frame edit d.text) s.start = before_stretch edit d.text fits to_start.text before in
    let end : Inside (after_frame edit d.text) s.end = after_stretch edit d.text fits to_end.text past (char_within s.block.closes) in
    let sizes : length d.text + (edit.start + length edit.bytes) ≡ length (edited edit d.text) + edit.end =
    sym (length-edited edit d.text fits.ordered fits.within) in
    let rest = file_there z2 refl sizes end s.rest in
    let whole = joined_file (file_before_there z1 first start s.block.head.sign s.first) (file.block block rest) in
    let zero : moved_place edit 0 ≡ 0 = moved_before edit 0 (omega (arith, fits.ordered)) in
    let said = says_exchanged (moved_place edit) s.before s.following e e' k s.index in
    let named =
    ap
    (λ says.
    let r : FileReading =
    record (moved_file (moved_place edit) says)
    { entries = slice_set (map (moved_entry (moved_place edit)) says.entries) k e' } in
    r) (sym s.whole) in
    subst (λ n. File longest (place (edited edit d.text) n) (entry_edited d edit k e').says) zero
    (subst (λ says. File longest (goes edit d.text (place d.text 0)) says) (said ∙ named) whole)

-- if other fields parse between the comma after the key and the closing brace after an edit there, the entry has these fields. This
-- holds if the edit ends after the end of this comma
pub fields_edited_read : (d : Document) (edit : Edit) (k : ℕ) (e : EntryReading) (news : List FieldReading) {start : Place}
    → Fits edit d.text → (s : EntrySplit (place d.text 0) d.says e k) → s.block.after_comma.at ≤ edit.start
    → s.block.after_comma.at < edit.end → edit.end ≤ s.block.brace.at
    → Gap longest (goes edit d.text s.block.after_comma) start → Fields longest start news (goes edit d.text s.block.brace)
    → IsDocument (entry_edited d edit k (record (moved_entry (moved_place edit) e) { fields = news }))
fields_edited_read d edit k e news {start} fits s before below past gap list =
    let b = s.block in
    let move = moved_place edit in
    let frame = before_frame edit d.text in
    let z1 = zone_before edit d.text fits in
    let z2 = zone_after edit d.text fits.ordered fits.within in
    let to_start = ahead_file_before s.first in
    let to_comma = ahead_to_comma b in
    let at_comma = ahead_then to_start to_comma in
    let at_brace = ahead_then at_comma (ahead_then (ahead_gap b.gap) (ahead_fields b.fields)) in
    let from_white = ahead_then (ahead_run b.white.run) (ahead_char b.comma) in
    let from_key = ahead_then (ahead_run b.key.run) from_white in
    let iu : Inside frame s.start =
    before_or_at edit d.text to_start.text (omega (arith, to_comma.at, before)) (omega (arith, to_comma.at, below)) in
    let id : Inside frame b.after_comma = before_or_at edit d.text at_comma.text before below in
    let ia = inside_between z1 iu id (ahead_head b.head) from_key in
    let ib = inside_between z1 ia id (ahead_run b.key.run) from_white in
    let ic = inside_between z1 ib id (ahead_run b.white.run) (ahead_char b.comma) in
    let jc : Inside (after_frame edit d.text) b.brace =
    after_stretch edit d.text fits at_brace.text past
    (omega (arith, char_within b.closes, (ahead_char b.closes).at, ap length b.closes.same)) in
    let jd : Inside (after_frame edit d.text) s.end =
    after_stretch edit d.text fits (b.closes.same ∙ at_brace.text) (omega (arith, past, (ahead_char b.closes).at))
    (char_within b.closes) in
    let comma_below = below_char id b.comma in
    let e' : EntryReading = record (moved_entry move e) { fields = news } in
    let block : EntryBlock (goes edit d.text s.start) e' (goes edit d.text s.end) = record {
      inside = goes edit d.text b.inside;
      key_end = goes edit d.text b.key_end;
      before_comma = goes edit d.text b.before_comma;
      after_comma = goes edit d.text b.after_comma;
      fields_start = start;
      brace = goes edit d.text b.brace;
      head = head_there z1 iu ia (below_between frame (ahead_then (ahead_run b.key.run) (ahead_run b.white.run)) comma_below) b.head;
      is_entry = b.is_entry;
      key = longest_there z1 ia ib (below_between frame (ahead_run b.white.run) comma_below) b.key;
      white = longest_there z1 ib ic comma_below b.white;
      comma = char_there z1 ic id b.comma;
      gap = gap;
      fields = list;
      closes = char_there z2 jc jd b.closes;
      key_is = ap (moved_part move) b.key_is ∙ sym (part_there z1 ia ib (ahead_run b.key.run));
      starts = ap move b.starts;
      ends = ap move b.ends;
    } in
    entry_edited_read d edit k e e' fits s
    (omega (
      arith,
      before,
      (ahead_head b.head).at,
      (ahead_run b.key.run).at,
      (ahead_run b.white.run).at,
      b.comma.next,
      (len_utf8_bounds 44).0,
    ))
    (omega (arith, past, (ahead_char b.closes).at)) (block_of block)

-- if the stretch is in a field and the new text has another field there, it parses to the document with the other field. The stretch
-- begins after the start of the field
pub field_edited_read : (d : Document) (edit : Edit) (k : ℕ) (e : EntryReading) (j : ℕ) (f f' : FieldReading) → Fits edit d.text
    → (s : EntrySplit (place d.text 0) d.says e k) → (g : FieldSplit s.block.fields_start e.fields f j s.block.brace)
    → g.start.at < edit.start → edit.end ≤ g.end.at
    → Field longest (goes edit d.text g.start) f' (goes edit d.text g.end) → IsDocument (field_edited d edit k e j f')
field_edited_read d edit k e j f f' fits s g before past field =
    let b = s.block in
    let move = moved_place edit in
    let frame = before_frame edit d.text in
    let z1 = zone_before edit d.text fits in
    let z2 = zone_after edit d.text fits.ordered fits.within in
    let to_comma = ahead_then (ahead_file_before s.first) (ahead_to_comma b) in
    let from_fields = ahead_fields_before g.first in
    let from_comma = ahead_then (ahead_gap b.gap) from_fields in
    let at_field = ahead_to_field s g in
    let at_end = ahead_then at_field (ahead_field g.field) in
    let to_brace = ahead_fields_after g.rest in
    let at_brace = ahead_then at_end to_brace in
    let id : Inside frame b.after_comma = before_stretch edit d.text fits to_comma.text (omega (arith, from_comma.at)) in
    let iv : Inside frame g.start = before_stretch edit d.text fits at_field.text before in
    let ie = inside_between z1 id iv (ahead_gap b.gap) from_fields in
    let jb : Inside (after_frame edit d.text) g.end =
    after_stretch edit d.text fits at_end.text past
    (omega (
      arith,
      to_brace.at,
      char_within b.closes,
      ap length to_brace.text,
      (ahead_char b.closes).at,
      ap length b.closes.same,
    )) in
    let jd : Inside (after_frame edit d.text) s.end =
    after_stretch edit d.text fits (b.closes.same ∙ at_brace.text) (omega (arith, to_brace.at, (ahead_char b.closes).at))
    (char_within b.closes) in
    let jc = inside_between z2 jb jd to_brace (ahead_char b.closes) in
    let fields =
    joined_fields (fields_before_there z1 ie iv before g.first) field
    (fields_after_there z2 jb jc (below_char jd b.closes) g.rest) in
    let listed : map (moved_field move) g.before ++ f' ∷ map (moved_field move) g.following
    ≡ slice_set (map (moved_field move) e.fields) j f' =
    sym (exchanged (moved_field move) g.before g.following f f' j g.index)
    ∙ ap (λ fs. slice_set (map (moved_field move) fs) j f') (sym g.whole) in
    fields_edited_read d edit k e (slice_set (map (moved_field move) e.fields) j f') fits s (omega (arith, from_comma.at))
    (omega (arith, from_comma.at, fits.ordered)) (omega (arith, to_brace.at))
    (gap_there z1 id ie (omega (arith, from_fields.at)) b.gap)
    (subst (λ fs. Fields longest (goes edit d.text b.fields_start) fs (goes edit d.text b.brace)) listed fields)
