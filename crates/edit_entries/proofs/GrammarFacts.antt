-- Parts of the file grammar that begin in a zone of two texts, in both texts.
use Rattle.std.proofs.Common.{◌≡◌, ℕ, ◌<◌, ◌≤◌, false, List, [], ◌++◌, map, sym, ap, ◌∙◌, subst, arith, inl, inr}
use Rattle.std.specs.Prelude.{◌==◌, not}
use Rattle.std.specs.Char.{is_whitespace, len_utf8}
use Rattle.std.proofs.lemmas.Bool.{cases_lt, not_from_false}
use Rattle.std.proofs.lemmas.List.{map-append}
use Rattle.std.proofs.lemmas.Str.{len_utf8_bounds}
use Rattle.bib_text.specs.Places.{Place, CharAt, Stops}
use Rattle.bib_text.proofs.BraceFacts.{ahead_parts}
use Rattle.bib_text.proofs.PlaceFacts.{Ahead, ahead_then, ahead_char, ahead_run, same_place, test_clash}
use Rattle.bib_syntax.specs.Reading.{Part, Piece, FieldReading, EntryReading, FileReading, then}
use Rattle.bib_syntax.specs.Reading.Piece.{literal}
use Rattle.bib_syntax.specs.Grammar.{Identifier, Number, QuotedParts, Quoted, Braced, NoDigit, Element, Elements, Field, LineComment, Gap, Fields, BlockKind, Head, Body, Block, longest}
use Rattle.bib_syntax.specs.Grammar.{Number as number}
use Rattle.bib_syntax.specs.Grammar.{QuotedParts as quotes}
use Rattle.bib_syntax.specs.Grammar.{Element as element}
use Rattle.bib_syntax.specs.Grammar.{Elements as elements}
use Rattle.bib_syntax.specs.Grammar.{Gap as gap}
use Rattle.bib_syntax.specs.Grammar.{Fields as fields}
use Rattle.bib_syntax.specs.Grammar.{Body as body}
use Rattle.bib_syntax.proofs.WordFacts.{ahead_number}
use Rattle.bib_syntax.proofs.FieldFacts.{ahead_identifier, ahead_quoted_parts, ahead_quoted, ahead_element, ahead_elements, ahead_field, ahead_gap, ahead_fields}
use Rattle.bib_syntax.proofs.FileFacts.{ahead_head, ahead_body, ahead_line_comment, says_entry}
use Rattle.edit_entries.specs.Edits.{moved_part, moved_piece, moved_field, moved_entry, moved_file}
use Rattle.edit_entries.proofs.ZoneFacts.{Frame, Zone, Inside, there, inside_between, char_there, char_back, stops_there, run_there, longest_there, parts_there, between_there, part_there}

-- a place at or before one that is before the end of the zone is before this end, too
pub below_between : (f : Frame) {v w : Place} → Ahead w v → v.at < f.end → w.at < f.end
below_between f {v} {w} ahead below = omega (arith, ahead.at)

-- a place at which a character of the zone begins is before the end of the zone
pub below_char : {f : Frame} {u v : Place} {c : ℕ} → Inside f v → CharAt u c v → u.at < f.end
below_char {f} {u} {v} {c} iv char =
    let width : 1 ≤ len_utf8 c = (len_utf8_bounds c).0 in
    omega (arith, char.next, iv.end)

pub identifier_there : {f : Frame} {u v : Place} {p : Part} → Zone f → Inside f u → Inside f v → v.at < f.end
    → Identifier longest u p v → Identifier longest (there f u) (moved_part f.move p) (there f v)
identifier_there {f} z iu iv below i =
    let is = inside_between z iu iv (ahead_char i.here) (ahead_run i.rest.run) in
    record {
      second = there f i.second;
      first = i.first;
      here = char_there z iu is i.here;
      starts = i.starts;
      rest = longest_there z is iv below i.rest;
      reading = ap (moved_part f.move) i.reading ∙ sym (part_there z iu iv (ahead_identifier i));
    }

pub number_there : {f : Frame} {u v : Place} → Zone f → Inside f u → Inside f v → v.at < f.end → Number longest u v
    → Number longest (there f u) (there f v)
number_there z iu iv below (number.whole char digit digits ends) =
    let a = inside_between z iu iv (ahead_char char) (ahead_run digits.run) in
    number.whole (char_there z iu a char) digit (longest_there z a iv below digits) (stops_there (λ d. d == 46) z iv below ends)
number_there {f} z iu iv below (number.broken char digit digits point others ends) =
    let to_point = ahead_then (ahead_char point) (ahead_run others.run) in
    let a = inside_between z iu iv (ahead_char char) (ahead_then (ahead_run digits.run) to_point) in
    let b = inside_between z a iv (ahead_run digits.run) to_point in
    let c = inside_between z b iv (ahead_char point) (ahead_run others.run) in
    number.broken (char_there z iu a char) digit (longest_there z a b (below_char c point) digits) (char_there z b c point)
    (longest_there z c iv below others) (stops_there (λ d. d == 46) z iv below ends)

pub quoted_parts_there : {f : Frame} {u v : Place} → Zone f → Inside f u → Inside f v → QuotedParts u v
    → QuotedParts (there f u) (there f v)
quoted_parts_there z iu iv quotes.none = quotes.none
quoted_parts_there z iu iv (quotes.plain char passes rest) =
    let a = inside_between z iu iv (ahead_char char) (ahead_quoted_parts rest) in
    quotes.plain (char_there z iu a char) passes (quoted_parts_there z a iv rest)
quoted_parts_there z iu iv (quotes.hidden slash char rest) =
    let a = inside_between z iu iv (ahead_char slash) (ahead_then (ahead_char char) (ahead_quoted_parts rest)) in
    let b = inside_between z a iv (ahead_char char) (ahead_quoted_parts rest) in
    quotes.hidden (char_there z iu a slash) (char_there z a b char) (quoted_parts_there z b iv rest)

pub quoted_there : {f : Frame} {u v : Place} {p : Part} → Zone f → Inside f u → Inside f v → Quoted u p v
    → Quoted (there f u) (moved_part f.move p) (there f v)
quoted_there {f} z iu iv q =
    let a = inside_between z iu iv (ahead_char q.opens) (ahead_then (ahead_quoted_parts q.parts) (ahead_char q.closes)) in
    let b = inside_between z a iv (ahead_quoted_parts q.parts) (ahead_char q.closes) in
    record {
      inside = there f q.inside;
      following = there f q.following;
      opens = char_there z iu a q.opens;
      parts = quoted_parts_there z a b q.parts;
      closes = char_there z b iv q.closes;
      reading = ap (moved_part f.move) q.reading ∙ sym (part_there z a b (ahead_quoted_parts q.parts));
    }

pub braced_there : {f : Frame} {u v : Place} {p : Part} → Zone f → Inside f u → Inside f v → Braced u p v
    → Braced (there f u) (moved_part f.move p) (there f v)
braced_there {f} z iu iv b =
    let first = inside_between z iu iv (ahead_char b.opens) (ahead_then (ahead_parts b.parts) (ahead_char b.closes)) in
    let last = inside_between z first iv (ahead_parts b.parts) (ahead_char b.closes) in
    record {
      inside = there f b.inside;
      following = there f b.following;
      opens = char_there z iu first b.opens;
      parts = parts_there z first last b.parts;
      closes = char_there z last iv b.closes;
      reading = ap (moved_part f.move) b.reading ∙ sym (part_there z first last (ahead_parts b.parts));
    }

no_digit_there : {f : Frame} {u : Place} → Zone f → Inside f u → u.at < f.end → NoDigit u → NoDigit (there f u)
no_digit_there z iu below none c v char digit = none c _ (char_back z iu below char) digit

pub element_there : {f : Frame} {u v : Place} {e : Piece} → Zone f → Inside f u → Inside f v → v.at < f.end
    → Element longest u e v → Element longest (there f u) (moved_piece f.move e) (there f v)
element_there {f} {u} {v} z iu iv below (element.number n) =
    subst (λ p. Element longest (there f u) (literal p) (there f v)) (part_there z iu iv (ahead_number n))
    (element.number (number_there z iu iv below n))
element_there {f} {u} {v} z iu iv below (element.named none i) =
    element.named (no_digit_there z iu (below_between f (ahead_identifier i) below) none) (identifier_there z iu iv below i)
element_there z iu iv below (element.braced b) = element.braced (braced_there z iu iv b)
element_there z iu iv below (element.quoted q) = element.quoted (quoted_there z iu iv q)

pub elements_there : {f : Frame} {u v : Place} {es : List Piece} → Zone f → Inside f u → Inside f v → v.at < f.end → Elements longest u es v
    → Elements longest (there f u) (map (moved_piece f.move) es) (there f v)
elements_there {f} z iu iv below (elements.last e white ends) =
    let a = inside_between z iu iv (ahead_element e) (ahead_run white.run) in
    elements.last (element_there z iu a (below_between f (ahead_run white.run) below) e)
    (longest_there z a iv below white) (stops_there (λ c. c == 35) z iv below ends)
elements_there {f} z iu iv below (elements.more e white sign white' rest) =
    let from_sign = ahead_then (ahead_char sign) (ahead_then (ahead_run white'.run) (ahead_elements rest)) in
    let a = inside_between z iu iv (ahead_element e) (ahead_then (ahead_run white.run) from_sign) in
    let b = inside_between z a iv (ahead_run white.run) from_sign in
    let c = inside_between z b iv (ahead_char sign) (ahead_then (ahead_run white'.run) (ahead_elements rest)) in
    let d = inside_between z c iv (ahead_run white'.run) (ahead_elements rest) in
    elements.more (element_there z iu a (below_between f (ahead_then (ahead_run white.run) from_sign) below) e)
    (longest_there z a b (below_char c sign) white) (char_there z b c sign)
    (longest_there z c d (below_between f (ahead_elements rest) below) white') (elements_there z d iv below rest)

pub field_there : {f : Frame} {u v : Place} {r : FieldReading} → Zone f → Inside f u → Inside f v → v.at < f.end
    → Field longest u r v → Field longest (there f u) (moved_field f.move r) (there f v)
field_there {f} {u} {v} z iu iv below field =
    let from_value = ahead_elements field.elements in
    let from_sign = ahead_then (ahead_char field.sign) (ahead_then (ahead_run field.white'.run) from_value) in
    let a = inside_between z iu iv (ahead_identifier field.name) (ahead_then (ahead_run field.white.run) from_sign) in
    let b = inside_between z a iv (ahead_run field.white.run) from_sign in
    let c = inside_between z b iv (ahead_char field.sign) (ahead_then (ahead_run field.white'.run) from_value) in
    let d = inside_between z c iv (ahead_run field.white'.run) from_value in
    record {
      name_end = there f field.name_end;
      before_sign = there f field.before_sign;
      after_sign = there f field.after_sign;
      value_start = there f field.value_start;
      name = identifier_there z iu a (below_between f (ahead_then (ahead_run field.white.run) from_sign) below) field.name;
      white = longest_there z a b (below_char c field.sign) field.white;
      sign = char_there z b c field.sign;
      white' = longest_there z c d (below_between f from_value below) field.white';
      elements = elements_there z d iv below field.elements;
      starts = ap f.move field.starts;
      ends = ap f.move field.ends;
    }

pub line_comment_there : {f : Frame} {u v : Place} → Zone f → Inside f u → Inside f v → v.at < f.end → LineComment u v
    → LineComment (there f u) (there f v)
line_comment_there {f} z iu iv below m =
    let a = inside_between z iu iv (ahead_char m.sign) (ahead_run m.line.run) in
    record { inside = there f m.inside; sign = char_there z iu a m.sign; line = longest_there z a iv below m.line }

-- a line comment ends before a later character that isn't a line feed
pub line_before : {u v w x : Place} {c : ℕ} → LineComment u v → Ahead v w → CharAt w c x → (c == 10) ≡ false → v.at < w.at
line_before {u} {v} {w} {x} {c} m ahead char other =
    elim (cases_lt v.at w.at) [
      | inl before ↦ before
      | inr past ↦
          let same : w ≡ v = same_place ahead.text (omega (arith, ahead.at)) in
          absurd (test_clash (not (c == 10)) (not_from_false (c == 10) other) (m.line.stops c x (subst (λ p. CharAt p c x) same char)))
    ]

-- a gap in the zone is a gap in the second text, under two conditions. In the first text, a character other than a line feed follows it.
-- In the second text, neither white space nor a percent sign follows it
pub gap_until : {f : Frame} {u v x : Place} {c : ℕ} → Zone f → Inside f u → Inside f v → CharAt v c x
    → (c == 10) ≡ false → Stops is_whitespace (there f v) → Stops (λ d. d == 37) (there f v) → Gap longest u v
    → Gap longest (there f u) (there f v)
gap_until z iu iv char other white_stops stops (gap.white white ends) =
    gap.white (record { run = run_there z iu iv white.run; stops = white_stops }) stops
gap_until {f} z iu iv char other white_stops stops (gap.line_comment white m white') =
    let from_line_end = ahead_run white'.run in
    let from_sign = ahead_then (ahead_line_comment m) from_line_end in
    let a = inside_between z iu iv (ahead_run white.run) from_sign in
    let b = inside_between z a iv (ahead_line_comment m) from_line_end in
    let before = line_before m from_line_end char other in
    let c = inside_between z a b (ahead_char m.sign) (ahead_run m.line.run) in
    gap.line_comment (longest_there z iu a (below_char c m.sign) white)
    (line_comment_there z a b (omega (arith, before, iv.end)) m)
    (record { run = run_there z b iv white'.run; stops = white_stops })

pub gap_there : {f : Frame} {u v : Place} → Zone f → Inside f u → Inside f v → v.at < f.end → Gap longest u v
    → Gap longest (there f u) (there f v)
gap_there z iu iv below (gap.white white ends) = gap.white (longest_there z iu iv below white) (stops_there (λ c. c == 37) z iv below ends)
gap_there {f} z iu iv below (gap.line_comment white m white') =
    let from_line_end = ahead_run white'.run in
    let from_sign = ahead_then (ahead_line_comment m) from_line_end in
    let a = inside_between z iu iv (ahead_run white.run) from_sign in
    let b = inside_between z a iv (ahead_line_comment m) from_line_end in
    gap.line_comment (longest_there z iu a (below_between f from_sign below) white)
    (line_comment_there z a b (below_between f from_line_end below) m) (longest_there z b iv below white')

pub fields_there : {f : Frame} {u v : Place} {rs : List FieldReading} → Zone f → Inside f u → Inside f v → v.at < f.end
    → Fields longest u rs v
    → Fields longest (there f u) (map (moved_field f.move) rs) (there f v)
fields_there z iu iv below (fields.none white) = fields.none (longest_there z iu iv below white)
fields_there {f} z iu iv below (fields.last field g) =
    let a = inside_between z iu iv (ahead_field field) (ahead_gap g) in
    fields.last (field_there z iu a (below_between f (ahead_gap g) below) field) (gap_there z a iv below g)
fields_there {f} z iu iv below (fields.more field g comma h rest) =
    let from_comma = ahead_then (ahead_char comma) (ahead_then (ahead_gap h) (ahead_fields rest)) in
    let a = inside_between z iu iv (ahead_field field) (ahead_then (ahead_gap g) from_comma) in
    let b = inside_between z a iv (ahead_gap g) from_comma in
    let c = inside_between z b iv (ahead_char comma) (ahead_then (ahead_gap h) (ahead_fields rest)) in
    let d = inside_between z c iv (ahead_gap h) (ahead_fields rest) in
    fields.more (field_there z iu a (below_between f (ahead_then (ahead_gap g) from_comma) below) field)
    (gap_there z a b (below_char c comma) g)
    (char_there z b c comma) (gap_there z c d (below_between f (ahead_fields rest) below) h) (fields_there z d iv below rest)

-- a head in the zone is a head in the second text, if no white space comes after it there
pub head_until : {f : Frame} {u v : Place} {kind : Part} → Zone f → Inside f u → Inside f v
    → Stops is_whitespace (there f v) → Head longest u kind v
    → Head longest (there f u) (moved_part f.move kind) (there f v)
head_until {f} z iu iv stops h =
    let from_brace = ahead_then (ahead_char h.opens) (ahead_run h.white'.run) in
    let from_name = ahead_then (ahead_identifier h.name) (ahead_then (ahead_run h.white.run) from_brace) in
    let a = inside_between z iu iv (ahead_char h.sign) from_name in
    let b = inside_between z a iv (ahead_identifier h.name) (ahead_then (ahead_run h.white.run) from_brace) in
    let c = inside_between z b iv (ahead_run h.white.run) from_brace in
    let d = inside_between z c iv (ahead_char h.opens) (ahead_run h.white'.run) in
    record {
      name_start = there f h.name_start;
      name_end = there f h.name_end;
      before_brace = there f h.before_brace;
      after_brace = there f h.after_brace;
      brace = h.brace;
      sign = char_there z iu a h.sign;
      name = identifier_there z a b (below_between f (ahead_run h.white.run) (below_char d h.opens)) h.name;
      white = longest_there z b c (below_char d h.opens) h.white;
      opens = char_there z c d h.opens;
      is_brace = h.is_brace;
      white' = record { run = run_there z d iv h.white'.run; stops = stops };
    }

pub head_there : {f : Frame} {u v : Place} {kind : Part} → Zone f → Inside f u → Inside f v → v.at < f.end
    → Head longest u kind v → Head longest (there f u) (moved_part f.move kind) (there f v)
head_there z iu iv below h = head_until z iu iv (stops_there is_whitespace z iv below h.white'.stops) h

-- the reading of a preamble without entries and abbreviations
abbrev says_preamble : List ℕ → FileReading
says_preamble text = record { preamble = text; entries = []; abbreviations = [] }

pub body_there : {f : Frame} {start u v : Place} {kind : Part} {k : BlockKind} {says : FileReading} → Zone f
    → Inside f u → Inside f v → Body longest start kind k u says v
    → Body longest (there f start) (moved_part f.move kind) k (there f u) (moved_file f.move says) (there f v)
body_there {f} z iu iv (body.comment brace chars closes) =
    let a = inside_between z iu iv (ahead_run chars.run) (ahead_char closes) in
    body.comment (there f brace) (longest_there z iu a (below_char iv closes) chars) (char_there z a iv closes)
body_there {f} {start} {u} {v} {kind} z iu iv (body.preamble quoted white closes is_brace) =
    let from_white = ahead_then (ahead_run white.run) (ahead_char closes) in
    let a = inside_between z iu iv (ahead_quoted quoted) from_white in
    let b = inside_between z a iv (ahead_run white.run) (ahead_char closes) in
    subst
    (λ text.
    Body longest (there f start) (moved_part f.move kind) BlockKind.preamble (there f u) (says_preamble text)
    (there f v)) (between_there z iu a (ahead_quoted quoted))
    (body.preamble (quoted_there z iu a quoted) (longest_there z a b (below_char iv closes) white) (char_there z b iv closes) is_brace)
body_there z iu iv (body.strings fs closes) =
    let a = inside_between z iu iv (ahead_fields fs) (ahead_char closes) in
    body.strings (fields_there z iu a (below_char iv closes) fs) (char_there z a iv closes)
body_there {f} {start} {u} {v} {kind} z iu iv (body.entry {z = brace} {fs = fs} key_end key white comma g list closes) =
    let from_fields = ahead_then (ahead_fields list) (ahead_char closes) in
    let from_gap = ahead_then (ahead_gap g) from_fields in
    let from_comma = ahead_then (ahead_char comma) from_gap in
    let a = inside_between z iu iv (ahead_run key.run) (ahead_then (ahead_run white.run) from_comma) in
    let b = inside_between z a iv (ahead_run white.run) from_comma in
    let c = inside_between z b iv (ahead_char comma) from_gap in
    let d = inside_between z c iv (ahead_gap g) from_fields in
    let e = inside_between z d iv (ahead_fields list) (ahead_char closes) in
    let below_brace = below_char iv closes in
    let below_comma = below_char c comma in
    subst
    (λ p.
    Body longest (there f start) (moved_part f.move kind) BlockKind.entry (there f u)
    (says_entry p (moved_part f.move kind) (map (moved_field f.move) fs) (f.move start.at) (f.move brace.at))
    (there f v))
    (part_there z iu a (ahead_run key.run))
    (body.entry (there f key_end) (longest_there z iu a (below_between f (ahead_run white.run) below_comma) key)
    (longest_there z a b below_comma white) (char_there z b c comma)
    (gap_there z c d (below_between f (ahead_fields list) below_brace) g) (fields_there z d e below_brace list) (char_there z e iv closes))

pub block_there : {f : Frame} {u v : Place} {says : FileReading} → Zone f → Inside f u → Inside f v
    → Block longest u says v → Block longest (there f u) (moved_file f.move says) (there f v)
block_there {f} z iu iv b =
    let a = inside_between z iu iv (ahead_head b.head) (ahead_body b.body) in
    record {
      inside = there f b.inside;
      kind = moved_part f.move b.kind;
      head = head_there z iu a (before_brace iv b.body) b.head;
      body = body_there z a iv b.body;
    }
  where
    before_brace : {f : Frame} {start u v : Place} {kind : Part} {k : BlockKind} {says : FileReading} → Inside f v
        → Body longest start kind k u says v → u.at < f.end
    before_brace {f} iv (body.comment brace chars closes) = below_between f (ahead_run chars.run) (below_char iv closes)
    before_brace {f} iv (body.preamble quoted white closes is_brace) =
        below_between f (ahead_then (ahead_quoted quoted) (ahead_run white.run)) (below_char iv closes)
    before_brace {f} iv (body.strings fs closes) = below_between f (ahead_fields fs) (below_char iv closes)
    before_brace {f} iv (body.entry key_end key white comma g list closes) =
        below_between f
        (ahead_then (ahead_run key.run)
        (ahead_then (ahead_run white.run)
        (ahead_then (ahead_char comma) (ahead_then (ahead_gap g) (ahead_fields list)))))
        (below_char iv closes)

-- moving two readings one after the other is moving each of them
pub moved-then : (move : ℕ → ℕ) (first rest : FileReading)
    → moved_file move (then first rest) ≡ then (moved_file move first) (moved_file move rest)
moved-then move first rest =
    let build : List EntryReading → List FieldReading → FileReading =
    λ (es : List EntryReading) (fs : List FieldReading).
    record { preamble = (then first rest).preamble; entries = es; abbreviations = fs } in
    ap (λ es. build es (map (moved_field move) (first.abbreviations ++ rest.abbreviations)))
    (map-append (moved_entry move) first.entries rest.entries)
    ∙ ap (build (map (moved_entry move) first.entries ++ map (moved_entry move) rest.entries))
    (map-append (moved_field move) first.abbreviations rest.abbreviations)
