-- The fields of an entry after a byte offset: after the comma of a field, or after a field without a comma.
use Rattle.std.proofs.Common.{◌≡◌, ℕ, zero, suc, ◌+◌, ◌-◌, ◌≤◌, Bool, true, false, cond, List, [], length, refl, ap, ◌∙◌, sym, subst, arith}
use Rattle.std.specs.Prelude.{◌==◌, ◌||◌}
use Rattle.std.specs.Char.{is_whitespace}
use Rattle.std.proofs.lemmas.Bool.{and_parts}
use Rattle.std.proofs.lemmas.Str.{len_utf8_ascii}
use Rattle.bib_text.specs.Places.{Place, place, CharAt, Longest, Run, Stops}
use Rattle.bib_text.specs.Places.Run.{stop, step}
use Rattle.bib_text.proofs.PlaceFacts.{Ahead, ahead_char, ahead_run, ahead_then, char_clash, char_left, run_append, stops_at, char_within}
use Rattle.bib_syntax.specs.Reading.{EntryReading, FieldReading}
use Rattle.bib_syntax.specs.Grammar.{Fields, Gap, LineComment, longest}
use Rattle.bib_syntax.specs.Grammar.{Fields as fields}
use Rattle.bib_syntax.specs.Grammar.{Gap as gap}
use Rattle.bib_syntax.proofs.FieldFacts.{ahead_fields, ahead_gap}
use Rattle.bib_queries.specs.Bytes.{has_byte_at}
use Rattle.edit_entries.specs.Changes.{IsTrimmed, value_end}
use Rattle.edit_entries.specs.Documents.{field_limit}
use Rattle.edit_entries.specs.Unset.{after_bytes, comma_after, comma_end, gap_end, has_comment_beside, is_closed, is_no_line_feed, line_end_at, own_end}
use Rattle.edit_entries.proofs.GapEndFacts.{Starts, byte_char, comment_line, fields_start, gap_found, gap_stops, run_stopped}
use Rattle.edit_entries.proofs.SplitFacts.{FieldsAfter}
use Rattle.edit_entries.proofs.UnsetFacts.{limit_of}
use Rattle.edit_entries.proofs.ValueFacts.{Stands, run_stands}

white_gap : {u v w : Place} → Run is_whitespace u v → Gap longest v w → Gap longest u w
white_gap run (gap.white white ends) = gap.white (record { run = run_append run white.run; stops = white.stops }) ends
white_gap run (gap.line_comment white m white') =
    gap.line_comment (record { run = run_append run white.run; stops = white.stops }) m white'

-- a gap, and fields after it
pub record GapAndFields (u : Place) (fs : List FieldReading) (v : Place) : Type 0 where
  pub start : Place
  pub gap : Gap longest u start
  pub fields : Fields longest start fs v

-- a gap and the fields after it, from a byte offset of a text on
pub record FieldsFrom (text : List ℕ) (at : ℕ) (fs : List FieldReading) (v : Place) : Type 0 where
  pub from : Place
  pub is : from.at ≡ at
  pub same : from.text ≡ text
  pub rest : GapAndFields from fs v

-- the text from a line end to its line feed is white space
line_end_run : (text : List ℕ) (n : ℕ) → Run is_whitespace (place text (line_end_at text n)) (place text n)
line_end_run text zero = by_case (has_byte_at text 0 13)
  where
    by_case : (cr : Bool) → Run is_whitespace (place text (cond cr 0 0)) (place text 0)
    by_case true = stop
    by_case false = stop
line_end_run text (suc n) =
    let last : suc n - 1 ≡ n = omega arith in
    subst (λ m. Run is_whitespace (place text (cond (has_byte_at text m 13) m (suc n))) (place text (suc n))) (sym last)
    (by_case (has_byte_at text n 13) refl)
  where
    by_case : (cr : Bool) → has_byte_at text n 13 ≡ cr → Run is_whitespace (place text (cond cr n (suc n))) (place text (suc n))
    by_case false is = stop
    by_case true is =
        let next : n + 1 ≡ suc n = omega arith in
        step (subst (λ m. CharAt (place text n) 13 (place text m)) next (byte_char text n 13 (omega arith) is)) refl stop

pub fields_from : {u v w : Place} {fs : List FieldReading} (text : List ℕ) (e : EntryReading) (j : ℕ) (f : FieldReading)
    → u ≡ place text f.value.end → Stops is_whitespace u → IsTrimmed text f → field_limit e j ≡ limit_of fs v.at
    → is_closed text e j f ≡ true → FieldsAfter u fs v → CharAt v 125 w → FieldsFrom text (comma_end text e j f) fs v
unfolding limit_of
fields_from {v = v} {w = w} text e j f here stops trimmed limit closed (FieldsAfter.last space) closes =
    by_case (has_byte_at text g 44) (has_byte_at text g 125) (has_comment_beside text f) refl refl refl closed gap'
  where
    g : ℕ
    g = comma_after text e j f

    n : ℕ
    n = after_bytes is_no_line_feed text f.value.end (field_limit e j)

    gap' : Gap longest (place text f.value.end) v
    gap' = subst (λ p. Gap longest p v) here space

    stops' : Stops is_whitespace (place text f.value.end)
    stops' = subst (λ p. Stops is_whitespace p) here stops

    within : field_limit e j ≤ length text
    within = omega (arith, limit, char_within closes, ap length ((ahead_then (ahead_gap gap') (ahead_char closes)).text))

    by_case : (comma brace own : Bool) → has_byte_at text g 44 ≡ comma → has_byte_at text g 125 ≡ brace
        → has_comment_beside text f ≡ own → (comma || brace) ≡ true → Gap longest (place text f.value.end) v
        → FieldsFrom text (cond comma (g + 1) (cond own (line_end_at text n) (value_end text f))) [] v
    by_case true brace own c b o closed x =
        let found = gap_found text f.value.end (field_limit e j) 44 x closes (omega (arith, limit)) within (omega arith) refl refl c in
        let comma = subst (λ p. CharAt p 44 (place text (g + 1))) (sym found) (byte_char text g 44 (omega arith) c) in
        absurd (char_clash comma closes refl)
    by_case false false own c b o closed x = absurd (cc)
    by_case false true false c b o closed x = record {
      from = place text (value_end text f);
      is = refl;
      same = refl;
      rest = record {
        start = v;
        gap = white_gap trimmed x;
        fields = fields.none (record { run = stop; stops = stops_at is_whitespace closes refl });
      };
    }
    by_case false true true c b o closed (gap.white white ends) =
        let same = run_stopped white.run stops' in
        let sign = (and_parts (has_byte_at text f.value.end 37) _ o).0 in
        let percent = subst (λ p. CharAt p 37 (place text (f.value.end + 1))) same (byte_char text f.value.end 37 (omega arith) sign) in
        absurd (char_clash percent closes refl)
    by_case false true true c b o closed (gap.line_comment {w = after} white m white') =
        let same = run_stopped white.run stops' in
        let next = run_stands white'.run closes in
        let line =
        comment_line text f.value.end (field_limit e j) (subst (λ p. LineComment p after) (sym same) m) next.here
        (omega (arith, limit, (ahead_run white'.run).at)) within in
        let left : Longest is_whitespace (place text n) v = subst (λ p. Longest is_whitespace p v) line.0 white' in
        record {
          from = place text (line_end_at text n);
          is = refl;
          same = refl;
          rest = record {
            start = v;
            gap = gap.white (record { run = run_append (line_end_run text n) left.run; stops = left.stops })
                (stops_at (λ d. d == 37) closes refl);
            fields = fields.none (record { run = stop; stops = stops_at is_whitespace closes refl });
          };
        }
fields_from {v = v} {w = w} {fs = fs} text e j f here stops trimmed limit closed
    (FieldsAfter.more {v = sign} {w = after} {x = start} space comma space' rest) closes =
    by_case (has_byte_at text g 44) (has_byte_at text g 125) refl refl closed
  where
    g : ℕ
    g = comma_after text e j f

    before : Gap longest (place text f.value.end) sign
    before = subst (λ p. Gap longest p sign) here space

    to_start : Ahead sign start
    to_start = ahead_then (ahead_char comma) (ahead_gap space')

    starts : Starts start (limit_of fs v.at)
    starts = fields_start rest (gap_stops space') closes

    within : field_limit e j ≤ length text
    within =
        omega (
          arith,
          limit,
          starts.is,
          (ahead_fields rest).at,
          char_within closes,
          ap length ((ahead_then (ahead_gap before) (ahead_then to_start (ahead_then (ahead_fields rest) (ahead_char closes)))).text),
        )

    by_case : (comma' brace : Bool) → has_byte_at text g 44 ≡ comma' → has_byte_at text g 125 ≡ brace → (comma' || brace) ≡ true
        → FieldsFrom text (cond comma' (g + 1) (own_end text e j f)) fs v
    by_case true brace c b closed =
        let found =
        gap_found text f.value.end (field_limit e j) 44 before comma (omega (arith, limit, starts.is, to_start.at)) within
        (omega arith) refl refl c in
        record {
          from = after;
          is = omega (arith, comma.next, len_utf8_ascii 44 (omega arith), ap (λ p. p.at) found);
          same = comma.same ∙ ap (λ p. p.text) found;
          rest = record { start = start; gap = space'; fields = rest };
        }
    by_case false true c b closed =
        let found =
        gap_found text f.value.end (field_limit e j) 125 before comma (omega (arith, limit, starts.is, to_start.at)) within (omega arith)
        refl refl b in
        let brace = subst (λ p. CharAt p 125 (place text (g + 1))) (sym found) (byte_char text g 125 (omega arith) b) in
        absurd (char_clash comma brace refl)
    by_case false false c b closed = absurd (cc)

-- if a comma is at the end of the gap after a value, the following fields begin after that comma
pub fields_past : {u v w : Place} {fs : List FieldReading} (text : List ℕ) (f : FieldReading) (g : ℕ) → u ≡ place text f.value.end
    → gap_end text f.value.end (length text) ≡ g → has_byte_at text g 44 ≡ true → FieldsAfter u fs v → CharAt v 125 w
    → FieldsFrom text (g + 1) fs v
fields_past {v = v} text f g here is byte (FieldsAfter.last space) closes =
    let space' = subst (λ p. Gap longest p v) here space in
    let size = ap length (ahead_gap space').text in
    let byte' = subst (λ n. has_byte_at text n 44 ≡ true) (sym is) byte in
    let found =
    gap_found text f.value.end (length text) 44 space' closes (omega (arith, char_left closes, size)) (omega arith) (omega arith) refl
    refl byte' ∙ ap (place text) is in
    absurd (char_clash (subst (λ p. CharAt p 44 (place text (g + 1))) (sym found) (byte_char text g 44 (omega arith) byte)) closes refl)
fields_past text f g here is byte (FieldsAfter.more {v = sign} {w = after} {x = start} space comma space' rest) closes =
    let before = subst (λ p. Gap longest p sign) here space in
    let size = ap length (ahead_gap before).text in
    let byte' = subst (λ n. has_byte_at text n 44 ≡ true) (sym is) byte in
    let found =
    gap_found text f.value.end (length text) 44 before comma (omega (arith, char_left comma, size)) (omega arith) (omega arith) refl
    refl byte' ∙ ap (place text) is in
    record {
      from = after;
      is = omega (arith, comma.next, len_utf8_ascii 44 (omega arith), ap (λ p. p.at) found);
      same = comma.same ∙ ap (λ p. p.text) found;
      rest = record { start = start; gap = space'; fields = rest };
    }

pub fields_stand : {u v w : Place} {fs : List FieldReading} → Fields longest u fs v → CharAt v 125 w → Stands u
fields_stand (fields.none white) closes = run_stands white.run closes
fields_stand (fields.last field gap) closes = record { char = field.name.first; next = field.name.second; here = field.name.here }
fields_stand (fields.more field gap comma gap' rest) closes =
    record { char = field.name.first; next = field.name.second; here = field.name.here }
