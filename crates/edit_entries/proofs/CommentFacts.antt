-- An entry without a field that has a comment before it.
use Rattle.std.proofs.Common.{◌≡◌, inl, inr, ℕ, suc, ◌+◌, ◌-◌, ◌<◌, ◌≤◌, Bool, true, false, cond, List, length, drop, refl, sym, ap, ◌∙◌, subst, arith, Some}
use Rattle.std.specs.Prelude.{◌==◌, not, slice_get}
use Rattle.std.specs.Char.{is_ascii_whitespace, is_whitespace}
use Rattle.std.specs.Option.{option_map_or}
use Rattle.std.proofs.lemmas.Bool.{cases_lt, ne_eqb}
use Rattle.std.proofs.lemmas.Bool.Decides.{nat_tests}
use Rattle.std.proofs.lemmas.Str.{len_utf8_ascii}
use Rattle.bib_text.specs.Places.{Place, place, CharAt, Longest, Run}
use Rattle.bib_text.specs.Places.Run.{stop, step}
use Rattle.bib_text.proofs.BoundaryFacts.{char_boundary}
use Rattle.bib_text.proofs.PlaceFacts.{ahead_run, ahead_then, char_clash, char_left, longest_rest, run_append, runs_same, same_place, stops_at, test_clash}
use Rattle.bib_syntax.specs.Characters.{is_id_start}
use Rattle.bib_syntax.specs.Reading.{EntryReading, FieldReading}
use Rattle.bib_syntax.specs.Grammar.{Gap, LineComment, longest}
use Rattle.bib_syntax.specs.Grammar.{Gap as gap}
use Rattle.bib_syntax.proofs.FieldFacts.{ahead_gap}
use Rattle.bib_syntax.proofs.FileFacts.{ahead_line_comment}
use Rattle.bib_queries.specs.Bytes.{has_byte_at}
use Rattle.edit_entries.specs.Changes.{IsTrimmed}
use Rattle.edit_entries.specs.Documents.{Document, IsDocument, field_limit}
use Rattle.edit_entries.specs.Edits.{Edit, edited, moved_place}
use Rattle.edit_entries.specs.Unset.{after_bytes, comma_before, comma_end, feed_after, feed_before, is_closed, is_no_line_feed, joining_edit, line_end_at, lines_edit, sign_after, sign_before}
use Rattle.edit_entries.proofs.EditFacts.{ascii_stands, before_frame, moved_after, moved_before, new_bytes}
use Rattle.edit_entries.proofs.EntryFacts.{goes}
use Rattle.edit_entries.proofs.FieldsFromFacts.{FieldsFrom}
use Rattle.edit_entries.proofs.GapEndFacts.{blank_after, byte_char, byte_same, comment_line, fields_start, gap_stops, longest_after, run_cut, white_after}
use Rattle.edit_entries.proofs.GrammarFacts.{line_comment_there}
use Rattle.edit_entries.proofs.LineFacts.{LineRemoved, Surroundings, border_left, comma_past, cut_removed, surroundings}
use Rattle.edit_entries.proofs.UnsetFacts.{limit_is, limit_of}
use Rattle.edit_entries.proofs.ValueFacts.{run_stands}
use Rattle.edit_entries.proofs.ZoneFacts.{Inside, char_there, inside, inside_between, longest_there, run_there, stops_there}

-- ---- a comment in a gap

-- a gap with a comment, whose percent sign is at `sign` and whose line feed is at `feed`
record Commented (text : List ℕ) (u : Place) (sign feed : ℕ) (a : Place) : Type 0 where
  white : Longest is_whitespace u (place text sign)
  line : LineComment (place text sign) (place text feed)
  feeds : CharAt (place text feed) 10 (place text (feed + 1))
  some : sign < feed
  white' : Longest is_whitespace (place text feed) a

commented : {a b : Place} {c : ℕ} (text : List ℕ) (at end : ℕ) → Gap longest (place text at) a → CharAt a c b → (37 == c) ≡ false
    → a.at ≤ end → end ≤ length text → has_byte_at text (after_bytes is_ascii_whitespace text at end) 37 ≡ true
    → Commented text (place text at) (after_bytes is_ascii_whitespace text at end)
    (after_bytes is_no_line_feed text (after_bytes is_ascii_whitespace text at end) end) a
commented text at end (gap.white white ends) char plain below within sign =
    let s : ℕ = after_bytes is_ascii_whitespace text at end in
    let percent = byte_char text s 37 (omega arith) sign in
    let same = runs_same (white_after text at end) (stops_at is_whitespace percent refl) white.run white.stops in
    absurd (char_clash (subst (λ p. CharAt p 37 (place text (s + 1))) same percent) char plain)
commented {a} text at end (gap.line_comment {w = w} white m white') char plain below within sign =
    let s : ℕ = after_bytes is_ascii_whitespace text at end in
    let n : ℕ = after_bytes is_no_line_feed text s end in
    let percent = byte_char text s 37 (omega arith) sign in
    let first = runs_same white.run white.stops (white_after text at end) (stops_at is_whitespace percent refl) in
    let m' : LineComment (place text s) w = subst (λ p. LineComment p w) first m in
    let next = run_stands white'.run char in
    let line = comment_line text s end m' next.here (omega (arith, (ahead_run white'.run).at, below)) within in
    let feed = subst (λ p. CharAt p 10 next.next) line.0 (subst (λ d. CharAt w d next.next) line.1 next.here) in
    let after : next.next ≡ place text (n + 1) =
    same_place {u = next.next} {v = place text (n + 1)} feed.same (omega (arith, feed.next, len_utf8_ascii 10 (omega arith))) in
    record {
      white = subst (λ p. Longest is_whitespace (place text at) p) first white;
      line = subst (λ p. LineComment (place text s) p) line.0 m';
      feeds = subst (λ p. CharAt (place text n) 10 p) after feed;
      some = omega (arith, line.2, ap (λ p. p.at) line.0);
      white' = subst (λ p. Longest is_whitespace p a) line.0 white';
    }

-- ---- gaps with and without a percent sign

-- a gap is white space if it ends where its ASCII white space ends, and no percent sign follows
plain_gap : {a b : Place} {c : ℕ} (text : List ℕ) (at end : ℕ) → Gap longest (place text at) a → CharAt a c b → (c == 37) ≡ false
    → a.at ≡ after_bytes is_ascii_whitespace text at end → Longest is_whitespace (place text at) a
plain_gap text at end (gap.white white ends) char plain is = white
plain_gap {a} {b} {c} text at end (gap.line_comment white m white') char plain is =
    let over = ahead_then (ahead_run white.run) (ahead_then (ahead_line_comment m) (ahead_run white'.run)) in
    let here : a ≡ place text (after_bytes is_ascii_whitespace text at end) =
    same_place {u = a} {v = place text (after_bytes is_ascii_whitespace text at end)} over.text is in
    let run = subst (λ p. Run is_whitespace (place text at) p) (sym here) (white_after text at end) in
    let same = runs_same white.run white.stops run white'.stops in
    absurd (char_clash (subst (λ p. CharAt p 37 m.inside) same m.sign) char plain')
  where
    plain' : (37 == c) ≡ false
    plain' = grind (arith, nat_tests)

-- a gap with a percent sign after its ASCII white space is a comment and white space from there on
signed_gap : {a : Place} (text : List ℕ) (at end : ℕ) → Gap longest (place text at) a
    → has_byte_at text (after_bytes is_ascii_whitespace text at end) 37 ≡ true
    → (w : Place) × LineComment (place text (after_bytes is_ascii_whitespace text at end)) w × Longest is_whitespace w a
signed_gap text at end (gap.white white ends) sign =
    let s : ℕ = after_bytes is_ascii_whitespace text at end in
    let percent = byte_char text s 37 (omega arith) sign in
    let same = runs_same (white_after text at end) (stops_at is_whitespace percent refl) white.run white.stops in
    absurd (test_clash (37 == 37) refl (ends 37 (place text (s + 1)) (subst (λ p. CharAt p 37 (place text (s + 1))) same percent)))
signed_gap text at end (gap.line_comment {w = w} white m white') sign =
    let s : ℕ = after_bytes is_ascii_whitespace text at end in
    let percent = byte_char text s 37 (omega arith) sign in
    let same = runs_same white.run white.stops (white_after text at end) (stops_at is_whitespace percent refl) in
    (w, subst (λ p. LineComment p w) same m, white')

percent_plain : (c : ℕ) → is_id_start c ≡ true → (37 == c) ≡ false
percent_plain c starts =
    ne_eqb 37 c (λ same. test_clash (is_id_start 37) (subst (λ x. is_id_start x ≡ true) (sym same) starts) refl)

-- ---- the edits

module _ (d : Document) (k : ℕ) (e : EntryReading) (j : ℕ) (f : FieldReading) (read : IsDocument d)
    (here : slice_get d.says.entries k ≡ Some e) (there' : slice_get e.fields j ≡ Some f) (trimmed : IsTrimmed d.text f)
    (comma : has_byte_at d.text (comma_before d.text e j f) 44 ≡ true) (sign : has_byte_at d.text (sign_before d.text e j f) 37 ≡ true)
    (closed : is_closed d.text e j f ≡ true) where
  abbrev text : List ℕ
  text = d.text

  a : Surroundings d k e j f (comma_before d.text e j f + 1) (comma_end d.text e j f)
  a = surroundings d k e j f read here there' trimmed comma closed

  abbrev s : ℕ
  s = sign_before d.text e j f

  abbrev n : ℕ
  n = feed_before d.text e j f

  abbrev at : ℕ
  at = comma_end d.text e j f

  before : Commented d.text (place d.text (comma_before d.text e j f + 1)) s n a.g.start
  before =
      let name = a.g.field.name in
      let name_is = ap (λ p. p.start) name.reading in
      let gap = subst (λ p. Gap longest p a.g.start) a.after a.c.next in
      commented d.text (comma_before d.text e j f + 1) f.name.start gap name.here (percent_plain name.first name.starts)
      (omega (arith, name_is)) (omega (arith, name_is, char_left name.here, ap length (ahead_gap gap).text)) sign

  white_before : Longest is_whitespace a.c.after (place d.text s)
  white_before = subst (λ p. Longest is_whitespace p (place d.text s)) (sym a.after) before.white

  first : a.c.after.at ≤ s
  first = (ahead_run white_before.run).at

  later : n < at
  later = omega (arith, (ahead_run before.white'.run).at, comma_past d.text e j f a.g.field)

  low : comma_before d.text e j f + 1 ≤ s
  low = omega (arith, first, ap (λ p. p.at) a.after)

  named : f.name.start < at
  named = omega (arith, ap (λ p. p.start) a.g.field.name.reading, comma_past d.text e j f a.g.field)

  following : Gap longest (place d.text at) a.r.rest.start
  following = subst (λ p. Gap longest p a.r.rest.start) (same_place {u = a.r.from} {v = place d.text at} a.r.same a.r.is) a.r.rest.gap

  -- if only white space with a line feed follows a field, the edit that removes its lines after a comment gives the reading without it
  pub lines_removed : sign_after d.text e j f ≡ field_limit e j → has_byte_at d.text (feed_after d.text e j f) 10 ≡ true
      → LineRemoved d k e j f (comma_before d.text e j f + 1) (lines_edit d.text e j f)
  lines_removed none feeds =
      let edit : Edit = lines_edit text e j f in
      let q : ℕ = feed_after text e j f in
      let st = fields_start a.r.rest.fields (gap_stops following) a.s.block.closes in
      let limit : field_limit e j ≡ a.r.rest.start.at =
      ap (λ fs. option_map_or (λ h. h.name.start) (slice_get fs (suc j)) e.end) a.g.whole
      ∙ limit_is a.g.before a.g.following f j e.end a.g.index ∙ ap (limit_of a.g.following) a.s.block.ends ∙ st.is in
      let white = plain_gap text at (field_limit e j) following st.here st.plain (sym limit ∙ sym none) in
      let rest = longest_after (blank_after text at (field_limit e j)) white in
      let left = longest_rest rest (byte_char text q 10 (omega arith) feeds) refl in
      let r : FieldsFrom text (q + 1) a.g.following a.s.block.brace = record {
        from = place text (q + 1);
        is = refl;
        same = refl;
        rest = record {
          start = a.r.rest.start;
          gap = gap.white left (stops_at (λ c. c == 37) st.here st.plain);
          fields = a.r.rest.fields;
        };
      } in
      let some : edit.start < edit.end = omega (arith, later) in
      let starts = run_stands (longest_rest before.white' before.feeds refl).run a.g.field.name.here in
      cut_removed d k e j f edit a.s a.g a.c r (comma_before text e j f + 1) (ap (λ p. p.at) a.after)
      (omega (arith, low, before.some)) (omega (arith, named)) some
      (border_left edit text refl (omega (arith, some)) r a.s.block.closes) (char_boundary starts.here)
      (λ z1 z2 ix jr jf below.
      let is = inside {u = place text s} z1 refl (omega arith) (omega (arith, before.some)) in
      let in' = inside {u = place text n} z1 refl (omega arith) (omega arith) in
      let i1 : Inside (before_frame edit text) (place text (n + 1)) =
      record {
        text = refl;
        start = omega arith;
        end = omega arith;
        moved = ap (λ m. m + 0) (moved_before edit (n + 1) some);
      } in
      let same : moved_place edit (q + 1) ≡ moved_place edit (n + 1) =
      omega (arith, moved_before edit (n + 1) some, moved_after edit (q + 1) (omega arith)) in
      gap.line_comment (longest_there z1 ix is (omega (arith, before.some)) white_before)
      (line_comment_there z1 is in' (omega arith) before.line)
      (record {
        run =
            step (char_there z1 in' i1 before.feeds) refl
            (subst (λ m. Run is_whitespace (place (edited edit text) m) (goes edit text a.r.rest.start)) same
            (run_there z2 jr jf left.run));
        stops = stops_there is_whitespace z2 jf below left.stops;
      }))

  -- a byte offset after the percent sign and up to the line feed of the comment before the field, at which a character begins
  record Cut (end : ℕ) : Type 0 where
    char : ℕ
    next : Place
    found : CharAt (place d.text end) char next
    some : s < end
    within : end ≤ n

  cut_at : Cut (line_end_at d.text n)
  cut_at = by_case (has_byte_at d.text (n - 1) 13) refl
    where
      by_case : (b : Bool) → has_byte_at d.text (n - 1) 13 ≡ b → Cut (cond b (n - 1) n)
      by_case true is = record {
        char = 13;
        next = place d.text (n - 1 + 1);
        found = byte_char d.text (n - 1) 13 (omega arith) is;
        some = elim (cases_lt s (n - 1)) [
          | inl less ↦ less
          | inr same ↦
              let index : n - 1 ≡ s = omega (arith, same, before.some) in
              let clash = byte_same d.text s 37 13 sign (subst (λ i. has_byte_at d.text i 13 ≡ true) index is) in
              absurd (omega (arith, clash))
        ];
        within = omega arith;
      }
      by_case false is =
          record { char = 10; next = place d.text (n + 1); found = before.feeds; some = before.some; within = omega arith }

  -- the edit that removes a field between two comments and joins these gives the reading without the field
  pub joining_removed : has_byte_at d.text (sign_after d.text e j f) 37 ≡ true
      → LineRemoved d k e j f (comma_before d.text e j f + 1) (joining_edit d.text e j f)
  joining_removed signs =
      let edit : Edit = joining_edit text e j f in
      let new : List ℕ = edited edit text in
      let cut = cut_at in
      let end : ℕ = line_end_at text n in
      let from : ℕ = sign_after text e j f in
      let (w, comment, white) = signed_gap text at (field_limit e j) following signs in
      let r : FieldsFrom text from a.g.following a.s.block.brace = record {
        from = place text from;
        is = refl;
        same = refl;
        rest = record {
          start = a.r.rest.start;
          gap = gap.line_comment (record { run = stop; stops = stops_at is_whitespace comment.sign refl }) comment white;
          fields = a.r.rest.fields;
        };
      } in
      let some : edit.start < edit.end = omega (arith, later, cut.within) in
      let boundary = char_boundary cut.found in
      let space : CharAt (place new end) 32 (place new (end + 1)) =
      ascii_stands new (drop from text) end 32 (omega arith) (new_bytes edit text boundary.0) in
      cut_removed d k e j f edit a.s a.g a.c r (comma_before text e j f + 1) (ap (λ p. p.at) a.after)
      (omega (arith, low, cut.some)) (omega (arith, named)) some (inr (32, place new (end + 1), space)) boundary
      (λ z1 z2 ix jr jf below.
      let m = before.line in
      let next : m.inside.at ≡ s + 1 = m.sign.next ∙ ap (λ i. s + i) (len_utf8_ascii 37 (omega arith)) in
      let is = inside {u = place text s} z1 refl (omega arith) cut.some in
      let im : Inside (before_frame edit text) m.inside =
      record {
        text = m.sign.same;
        start = omega arith;
        end = omega (arith, next, cut.some);
        moved = ap (λ i. i + 0) (moved_before edit m.inside.at (omega (arith, next, cut.some, some)));
      } in
      let ie : Inside (before_frame edit text) (place text end) =
      record {
        text = refl;
        start = omega arith;
        end = omega arith;
        moved = ap (λ i. i + 0) (moved_before edit end some);
      } in
      let jw = inside_between z2 jr jf (ahead_line_comment comment) (ahead_run white.run) in
      let kept =
      run_cut text end m.sign.same (inr (cut.char, cut.next, cut.found)) m.line.run (omega (arith, next, cut.some)) cut.within in
      let at_end : moved_place edit end ≡ end = moved_before edit end some in
      let after : moved_place edit from ≡ end + 1 = omega (arith, moved_after edit from (omega arith)) in
      let run1 =
      subst (λ i. Run (λ c. not (c == 10)) (goes edit text m.inside) (place new i)) at_end (run_there z1 im ie kept.0) in
      let run2 =
      subst (λ i. Run (λ c. not (c == 10)) (place new i) (goes edit text w)) after
      (run_there z2 jr jw (step comment.sign refl comment.line.run)) in
      let joined : LineComment (goes edit text (place text s)) (goes edit text w) = record {
        inside = goes edit text m.inside;
        sign = char_there z1 is im m.sign;
        line = record {
          run = run_append run1 (step space refl run2);
          stops =
              stops_there (λ c. not (c == 10)) z2 jw (omega (arith, below, (ahead_run white.run).at)) comment.line.stops;
        };
      } in
      gap.line_comment (longest_there z1 ix is cut.some white_before) joined (longest_there z2 jw jf below white))
