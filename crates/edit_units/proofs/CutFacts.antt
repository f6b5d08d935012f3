-- The units of a text are its parts: each is the text of a file by itself, and white space is between them.
use Rattle.std.proofs.Common.{◌≡◌, inl, inr, ℕ, ◌+◌, ◌-◌, ◌≤◌, arith, Bool, true, false, cond, List, [], ◌∷◌, ◌++◌, length, take, drop, refl, sym, ap, ◌∙◌, subst, append_assoc}
use Rattle.std.specs.Prelude.{◌==◌, ◌&&◌, ◌||◌, ⊤, not}
use Rattle.std.specs.Char.{is_ascii_whitespace}
use Rattle.std.proofs.lemmas.Str.{encode_ascii, len_utf8_ascii}
use Rattle.std.specs.List.{AllByRecursion, flat_map, list_all, list_any}
use Rattle.std.specs.Str.{IsCharBoundary}
use Rattle.std.specs.declared.ops.Range.{Range}
use Rattle.std.proofs.lemmas.Bool.{and_parts, cases_lt, eqb-true}
use Rattle.std.proofs.lemmas.List.{drop-drop, drop_all, length-drop, length-take-le, take-append-drop, take_all}
use Rattle.bib_text.specs.Places.{AtEnd, CharAt, Place, between, place}
use Rattle.bib_text.proofs.BoundaryFacts.{char_boundary}
use Rattle.bib_text.proofs.ListFacts.{passed_append, take_to_end}
use Rattle.bib_text.proofs.PlaceFacts.{Ahead, ahead_char, ahead_run, char_left, char_within, stops_at_end, test_clash}
use Rattle.bib_syntax.specs.Grammar.{File, LineComment, longest}
use Rattle.bib_syntax.specs.Grammar.{File as file}
use Rattle.bib_syntax.specs.Lines.{AreLinesFrom, InLine, IsLine, LineReading}
use Rattle.bib_syntax.specs.Lines.{InLine as in_line}
use Rattle.bib_syntax.specs.Reading.{FileReading, empty_reading, then}
use Rattle.bib_syntax.proofs.FileFacts.{ahead_block, ahead_line_comment, is_skipped}
use Rattle.bib_syntax.proofs.LineReadFacts.{ahead_in_line, lines_are_file}
use Rattle.edit_entries.specs.Changes.{IsReadPlaceless}
use Rattle.edit_entries.specs.Edits.{moved_file}
use Rattle.edit_entries.proofs.CutFacts.{cut_file}
use Rattle.edit_entries.proofs.ElementFacts.{one_byte, parted}
use Rattle.edit_entries.proofs.GrammarFacts.{block_there, line_comment_there, moved-then}
use Rattle.edit_entries.proofs.PlacelessFacts.{file_placeless}
use Rattle.edit_entries.proofs.ZoneFacts.{Frame, Inside, Zone, char_there, inside_between, run_there, there}
use Rattle.edit_units.proofs.JoinFacts.{feed_between}
use Rattle.edit_units.proofs.UnitFacts.{line_apart}
use Rattle.edit_units.specs.Cuts.{AreUnitsCut}
use Rattle.edit_units.specs.Separated.{AreSeparated, HasBlankLine}
use Rattle.edit_units.specs.Parts.{AreItsParts, AreParts, IsFileEnd, IsLineEnd, IsNextPart, IsWhite, parts_from, text_of_parts}
use Rattle.edit_units.specs.Units.{AreUnits, UnitReading, end_of_units, begin_filled, has_no_block, is_above, is_blank_line, line_bytes, line_units, with_line}

-- ---- a line by itself

abbrev alone : List ℕ → ℕ → ℕ → Frame
alone text start end = record {
  old = text;
  new = between (place text start) (place text end);
  move = λ n. n - start;
  from = start;
  to = 0;
  end = end;
}

zone_alone : (text : List ℕ) (start end : ℕ) → start ≤ end → end ≤ length text → Zone (alone text start end)
zone_alone text start end order fits =
    let size : length (between (place text start) (place text end)) ≡ end - start =
    length-take-le (end - start) (drop start text) (omega (arith, fits, length-drop start text)) in
    record {
      moves = λ n from below. omega (arith, from);
      same = sym (take_all (end - start) (between (place text start) (place text end)) (omega (arith, size)));
      cut = λ {u} {v} {c} same char below. omega (arith, char_left char, char.next, ap length same, size, order);
    }

inside_alone : (text : List ℕ) (start end : ℕ) {u : Place} → u.text ≡ text → start ≤ u.at → u.at ≤ end → Inside (alone text start end) u
inside_alone text start end same from within = record { text = same; start = from; end = within; moved = omega (arith, from) }

-- the end of the text that is cut out
at_end_alone : (text : List ℕ) (start end : ℕ) (u : Place) → start ≤ end → end ≤ length text → u.at ≡ end
    → AtEnd (there (alone text start end) u)
at_end_alone text start end u order fits last =
    ap (λ n. n - start) last
    ∙ sym (length-take-le (end - start) (drop start text) (omega (arith, fits, length-drop start text)))

-- a line comment that is cut out with its line
comment_alone : (text : List ℕ) (start end : ℕ) {u v : Place} → start ≤ end → end ≤ length text → Inside (alone text start end) u
    → Inside (alone text start end) v → LineComment u v → LineComment (there (alone text start end) u) (there (alone text start end) v)
comment_alone text start end {u} {v} order fits iu iv m =
    let z = zone_alone text start end order fits in
    elim (cases_lt v.at end) [
      | inl before ↦ line_comment_there z iu iv before m
      | inr past ↦
          let a = inside_between z iu iv (ahead_char m.sign) (ahead_run m.line.run) in
          record {
            inside = there (alone text start end) m.inside;
            sign = char_there z iu a m.sign;
            line = record {
              run = run_there z a iv m.line.run;
              stops = stops_at_end (λ c. not (c == 10)) (at_end_alone text start end v order fits (omega (arith, past, iv.end)));
            };
          }
    ]

-- a part of a line up to its end, cut out with it
part_alone : (text : List ℕ) (start end : ℕ) {u v : Place} {blocks : List (Range ℕ)} {says : FileReading} → start ≤ end → end ≤ length text
    → Inside (alone text start end) u → Inside (alone text start end) v → v.at ≡ end → InLine u blocks says v
    → File longest (there (alone text start end) u) (moved_file (λ n. n - start) says)
part_alone text start end {u} order fits iu iv last in_line.none = file.end (at_end_alone text start end u order fits last)
part_alone text start end order fits iu iv last (in_line.skipped {c = c} char passes rest) =
    let z = zone_alone text start end order fits in
    let a = inside_between z iu iv (ahead_char char) (ahead_in_line rest) in
    file.skipped (char_there z iu a char) (and_parts (is_skipped c) (not (c == 10)) passes).0
    (part_alone text start end order fits a iv last rest)
part_alone text start end order fits iu iv last (in_line.line_comment m rest) =
    let z = zone_alone text start end order fits in
    let a = inside_between z iu iv (ahead_line_comment m) (ahead_in_line rest) in
    file.line_comment (comment_alone text start end order fits iu a m) (part_alone text start end order fits a iv last rest)
part_alone text start end {u} order fits iu iv last (in_line.block {first = first} {rest = rest} b inner) =
    let z = zone_alone text start end order fits in
    let a = inside_between z iu iv (ahead_block b) (ahead_in_line inner) in
    subst (λ r. File longest (there (alone text start end) u) r) (sym (moved-then (λ n. n - start) first rest))
    (file.block (block_there z iu a b) (part_alone text start end order fits a iv last inner))

-- a line by itself has its content
line_alone : (text : List ℕ) {u v : Place} (l : LineReading) → u.text ≡ text → IsLine u l v → v.at ≤ length text
    → IsReadPlaceless l.says (line_bytes text l)
line_alone text {u} {v} l same line fits =
    let ahead = ahead_in_line line.inside in
    let order : l.start ≤ l.end = omega (arith, line.starts, line.ends, ahead.at) in
    let within : l.end ≤ length text = omega (arith, line.ends, fits) in
    let iu = inside_alone text l.start l.end {u = u} same (omega (arith, line.starts)) (omega (arith, line.ends, ahead.at)) in
    let iv = inside_alone text l.start l.end {u = v} (ahead.text
    ∙ same) (omega (arith, line.starts, ahead.at)) (omega (arith, line.ends)) in
    let first : u.at - l.start ≡ 0 = omega (arith, line.starts) in
    record {
      tells = moved_file (λ n. n - l.start) l.says;
      read = subst (λ n. File longest (place (line_bytes text l) n) (moved_file (λ k. k - l.start) l.says)) first
          (part_alone text l.start l.end order within iu iv (sym line.ends) line.inside);
      alike = file_placeless (λ n. n - l.start) l.says;
    }

-- ---- texts between two offsets

-- the text up to a line feed, the line feed, and the text after it
feed_split : (text : List ℕ) (from to : ℕ) {end v : Place} → end.text ≡ text → CharAt end 10 v → from ≤ end.at → v.at ≤ to
    → to ≤ length text
    → between (place text from) (place text to) ≡ between (place text from) (place text end.at)
    ++ 10 ∷ between (place text v.at) (place text to)
feed_split text from to {end} {v} same feed before following fits =
    let one : end.at + 1 ≡ v.at = omega (arith, feed.next, len_utf8_ascii 10 (omega arith)) in
    let first : Ahead (place text from) end = record { text = same; at = before } in
    let rest : Ahead end (place text to) = record { text = sym same; at = omega (arith, following, one) } in
    let last : Ahead v (place text to) = record { text = sym (feed.same ∙ same); at = following } in
    parted first rest fits
    ∙ ap (λ t. between (place text from) (place text end.at) ++ t)
    (parted (ahead_char feed) last (omega (arith, fits, ap length same))
    ∙ ap (λ t. t ++ between v (place text to)) (one_byte 10 (omega arith) feed)
    ∙ ap (λ t. 10 ∷ take (to - v.at) (drop v.at t)) (feed.same ∙ same))

-- the text after a line feed
feed_rest : (text : List ℕ) {end v : Place} → end.text ≡ text → CharAt end 10 v → drop end.at text ≡ 10 ∷ drop v.at text
feed_rest text {end} {v} same feed =
    subst (λ t. drop end.at t ≡ 10 ∷ drop v.at t) same (feed.here ∙ ap (λ bytes. bytes
    ++ drop v.at end.text) (encode_ascii 10 (omega arith)))

none_between : (text : List ℕ) (at : ℕ) → between (place text at) (place text at) ≡ []
none_between text at = ap (λ n. take n (drop at text)) (let none : at - at ≡ 0 = omega arith in none)

-- the text up to an offset, and the text after it
cut_at : (text : List ℕ) (from to : ℕ) → from ≤ to → drop from text ≡ between (place text from) (place text to) ++ drop to text
cut_at text from to order =
    sym (take-append-drop (to - from) (drop from text))
    ∙ ap (λ t. take (to - from) (drop from text) ++ t)
    (drop-drop (to - from) from text ∙ ap (λ n. drop n text) (let sum : from + (to - from) ≡ to = omega (arith, order) in sum))

-- ---- units from an offset on

-- units after an offset: white space that begins with a line feed is before each, and the text ends after them or a line feed follows
record AreNext (text : List ℕ) (at : ℕ) (units : List UnitReading) : Type 0 where
  parts : AllByRecursion IsNextPart (parts_from text at units)
  ends : IsFileEnd (drop (end_of_units at units) text)
  whole : drop at text ≡ text_of_parts (parts_from text at units) (drop (end_of_units at units) text)
  cuts : IsCharBoundary text at → AreUnitsCut text at units
  separated : AreSeparated text units

-- the text from an offset on: a unit, and the parts after it
whole_from : (text : List ℕ) (at : ℕ) (u : UnitReading) (us : List UnitReading) → at ≤ u.start → u.start ≤ u.end
    → drop u.end text ≡ text_of_parts (parts_from text u.end us) (drop (end_of_units u.end us) text)
    → drop at text ≡ text_of_parts (parts_from text at (u ∷ us)) (drop (end_of_units at (u ∷ us)) text)
whole_from text at u us after order rest =
    let space : List ℕ = between (place text at) (place text u.start) in
    let own : List ℕ = between (place text u.start) (place text u.end) in
    let others : List ℕ = flat_map (λ p. p.space ++ p.text) (parts_from text u.end us) in
    let end : List ℕ = drop (end_of_units u.end us) text in
    cut_at text at u.start after ∙ ap (λ t. space ++ t) (cut_at text u.start u.end order ∙ ap (λ t. own ++ t) rest)
    ∙ sym (append_assoc (space ++ own) others end ∙ append_assoc space own (others ++ end))

-- a unit and those after it may be cut out
cuts_from : (text : List ℕ) (at : ℕ) (u : UnitReading) (us : List UnitReading) → at ≤ u.start → u.start ≤ u.end
    → IsCharBoundary text u.start
    → IsCharBoundary text u.end → (IsCharBoundary text u.end → AreUnitsCut text u.end us) → IsCharBoundary text at
    → AreUnitsCut text at (u ∷ us)
cuts_from text at u us after order start_cut end_cut others cut = (
  record { ordered = after; start_cut = cut; end_cut = start_cut },
  record { ordered = order; start_cut = start_cut; end_cut = end_cut },
  others end_cut,
)

-- units from the start of a line on
data AreCut (text : List ℕ) (at : ℕ) : List UnitReading → Type 0 where
  none : IsWhite (drop at text) → AreCut text at []
  some : {u : UnitReading} {us : List UnitReading} → at ≤ u.start → u.start ≤ u.end → u.end ≤ length text
      → IsCharBoundary text u.start → IsCharBoundary text u.end
      → IsWhite (between (place text at) (place text u.start))
      → IsReadPlaceless u.says (between (place text u.start) (place text u.end))
      → ((length u.blocks == 0) ≡ true → HasBlankLine text u.end us) → AreNext text u.end us → AreCut text at (u ∷ us)

-- units after a line feed
next_from : (text : List ℕ) {end v : Place} {us : List UnitReading} → end.text ≡ text → CharAt end 10 v → AreCut text v.at us
    → AreNext text end.at us
next_from text {end} {v} same feed (AreCut.none white) = record {
  parts = _;
  ends = inr (subst IsLineEnd (sym (feed_rest text same feed)) (IsLineEnd.feed white));
  whole = refl;
  cuts = λ start. start;
  separated = _;
}
next_from text {end} {v} same feed (AreCut.some {u = u} {us = us} after order fits start_cut end_cut white read blank others) = record {
  parts = (
    record {
      space = subst IsLineEnd
          (sym
          (feed_split text end.at u.start same feed (omega arith) after (omega (arith, order, fits))
          ∙ ap (λ t. t ++ 10 ∷ between (place text v.at) (place text u.start)) (none_between text end.at)))
          (IsLineEnd.feed white);
      read = read;
    },
    others.parts,
  );
  ends = others.ends;
  whole = whole_from text end.at u us (omega (arith, after, feed.next)) order others.whole;
  cuts = cuts_from text end.at u us (omega (arith, after, feed.next)) order start_cut end_cut others.cuts;
  separated = (blank, others.separated);
}

-- a blank line before units
blank_before : (text : List ℕ) (at : ℕ) {end v : Place} {us : List UnitReading} → end.text ≡ text → CharAt end 10 v → at ≤ end.at
    → v.at ≤ length text → IsWhite (between (place text at) (place text end.at)) → AreCut text v.at us → AreCut text at us
blank_before text at {end} {v} same feed from fits line (AreCut.none white) = AreCut.none
    (subst IsWhite
    (sym
    (cut_at text at end.at from
    ∙ ap (λ t. between (place text at) (place text end.at) ++ t) (feed_rest text same feed)))
    (passed_append is_ascii_whitespace (between (place text at) (place text end.at)) (10 ∷ drop v.at text) line white))
blank_before text at {end} {v} same feed from fits line
    (AreCut.some {u = u} {us = us} after order within start_cut end_cut white read blank others) = AreCut.some
    (omega (arith, from, after, feed.next)) order within start_cut end_cut
    (subst IsWhite (sym (feed_split text at u.start same feed from after (omega (arith, order, within))))
    (passed_append is_ascii_whitespace (between (place text at) (place text end.at)) (10 ∷ between (place text v.at) (place text u.start))
    line white))
    read blank others

-- ---- the units of lines

-- the first of these units begins at this offset
record BeginsWith (at : ℕ) (units : List UnitReading) : Type 0 where
  unit : UnitReading
  others : List UnitReading
  is : units ≡ unit ∷ others
  starts : unit.start ≡ at

-- the white space before the first of these units has a line feed
abbrev HasFeed : List ℕ → ℕ → List UnitReading → Type 0
HasFeed text at [] = ⊤
HasFeed text at (u ∷ us) = list_any (λ b. b == 10) (between (place text at) (place text u.start)) ≡ true

or_true : (b : Bool) → (b || true) ≡ true
or_true true = refl
or_true false = refl

any_feed : (before rest : List ℕ) → list_any (λ b. b == 10) (before ++ 10 ∷ rest) ≡ true
any_feed [] rest = refl
any_feed (b ∷ before) rest = ap (λ x. (b == 10) || x) (any_feed before rest) ∙ or_true (b == 10)

-- a line feed after a blank line
feed_behind : (text : List ℕ) (at : ℕ) {end v : Place} (us : List UnitReading) → end.text ≡ text → CharAt end 10 v → at ≤ end.at
    → AreCut text v.at us → HasFeed text at us
feed_behind text at [] same feed from cut = tt
feed_behind text at {end} {v} (u ∷ us) same feed from (AreCut.some after order fits start_cut end_cut white read blank others) =
    ap (list_any (λ b. b == 10)) (feed_split text at u.start same feed from after (omega (arith, order, fits)))
    ∙ any_feed (between (place text at) (place text end.at)) (between (place text v.at) (place text u.start))

-- after a line feed, a line feed in white space is behind its first character
blank_behind : (text : List ℕ) {end v : Place} (us : List UnitReading) → end.text ≡ text → CharAt end 10 v → AreCut text v.at us
    → HasFeed text v.at us → HasBlankLine text end.at us
blank_behind text [] same feed cut has = tt
blank_behind text {end} {v} (u ∷ us) same feed (AreCut.some after order fits start_cut end_cut white read blank others) has =
    ap (λ t. list_any (λ b. b == 10) (drop 1 t))
    (feed_split text end.at u.start same feed (omega arith) after (omega (arith, order, fits))
    ∙ ap (λ t. t ++ 10 ∷ between (place text v.at) (place text u.start)) (none_between text end.at))
    ∙ has

left_false : (a b : Bool) → (a && b) ≡ false → b ≡ true → a ≡ false
left_false true b both is = absurd (test_clash b is both)
left_false false b both is = refl

-- the units of lines from a place on. If the first line isn't blank, the first unit begins with it
record AreLinesCut (text : List ℕ) (at : ℕ) (filled : Bool) (units : List UnitReading) : Type 0 where
  cut : AreCut text at units
  first : filled ≡ true → BeginsWith at units
  feed : filled ≡ false → HasFeed text at units

-- a line without blocks has no content
no_content : {u v : Place} {blocks : List (Range ℕ)} {says : FileReading} → InLine u blocks says v → blocks ≡ [] → says ≡ empty_reading
no_content in_line.none empty = refl
no_content (in_line.skipped char passes rest) empty = no_content rest empty
no_content (in_line.line_comment m rest) empty = no_content rest empty
no_content (in_line.block b rest) empty = absurd (cc)

no_elements : (blocks : List (Range ℕ)) → (length blocks == 0) ≡ true → blocks ≡ []
no_elements [] is = refl
no_elements (x ∷ xs) is = absurd (omega (arith, eqb-true (length (x ∷ xs)) 0 is))

-- nothing is between the start of a line and itself
white_start : (text : List ℕ) (at start : ℕ) → start ≡ at → IsWhite (between (place text at) (place text start))
white_start text at start same = subst (λ n. IsWhite (between (place text at) (place text n))) (sym same) (subst IsWhite (sym
    (none_between text at)) refl)

-- the unit of one line
abbrev unit_of_line : LineReading → UnitReading
unit_of_line l = record { start = l.start; end = l.end; blocks = l.blocks; says = l.says }

-- a line that belongs to the unit of the next line
joined_cut : (text : List ℕ) {u end v : Place} (l : LineReading) (first : UnitReading) (us : List UnitReading) → u.text ≡ text
    → IsLine u l end → CharAt end 10 v → has_no_block l ≡ true → first.start ≡ v.at → IsCharBoundary text u.at
    → AreCut text v.at (first ∷ us)
    → AreCut text u.at ((record first { start = l.start }) ∷ us)
joined_cut text {u} {end} {v} l first us same line feed empty starts cut
    (AreCut.some after order fits start_cut end_cut white read blank others) =
    let ahead = ahead_in_line line.inside in
    let ends : end.text ≡ text = ahead.text ∙ same in
    let line_fits : end.at ≤ length text = omega (arith, char_left feed, ap length ends) in
    let up : l.start ≤ end.at = omega (arith, line.starts, ahead.at) in
    let to : v.at ≤ first.end = omega (arith, order, starts) in
    let silent : l.says ≡ empty_reading = no_content line.inside (no_elements l.blocks empty) in
    let split : between (place text l.start) (place text first.end)
    ≡ line_bytes text l ++ 10 ∷ between (place text first.start) (place text first.end) =
    feed_split text l.start first.end ends feed up to fits
    ∙ ap (λ n. between (place text l.start) (place text n) ++ 10 ∷ between (place text v.at) (place text first.end)) (sym line.ends)
    ∙ ap (λ n. line_bytes text l ++ 10 ∷ between (place text n) (place text first.end)) (sym starts) in
    let both : IsReadPlaceless (then l.says first.says) (line_bytes text l
    ++ 10 ∷ between (place text first.start) (place text first.end)) =
    feed_between (line_bytes text l) (between (place text first.start) (place text first.end)) l.says first.says
    (line_alone text l same line line_fits) read in
    AreCut.some (omega (arith, line.starts)) (omega (arith, line.starts, ahead.at, feed.next, to)) fits
    (subst (IsCharBoundary text) (sym line.starts) cut) end_cut
    (white_start text u.at l.start line.starts)
    (subst (λ r. IsReadPlaceless r (between (place text l.start) (place text first.end))) (ap (λ r. then r first.says) silent)
    (subst (IsReadPlaceless (then l.says first.says)) (sym split) both))
    blank others

-- a line that is a unit by itself
apart_cut : (text : List ℕ) {u end : Place} (l : LineReading) (us : List UnitReading) → u.text ≡ text → IsLine u l end
    → end.at ≤ length text → IsCharBoundary text u.at → IsCharBoundary text end.at
    → (has_no_block l ≡ true → HasBlankLine text l.end us) → AreNext text l.end us
    → AreCut text u.at (unit_of_line l ∷ us)
apart_cut text {u} {end} l us same line fits cut cut' blank others =
    let ahead = ahead_in_line line.inside in
    AreCut.some {u = unit_of_line l} (omega (arith, line.starts)) (omega (arith, line.starts, line.ends, ahead.at))
    (omega (arith, line.ends, fits)) (subst (IsCharBoundary text) (sym line.starts) cut) (subst (IsCharBoundary text) (sym line.ends) cut')
    (white_start text u.at l.start line.starts) (line_alone text l same line fits) blank others

-- the bytes of the last line are the rest of the text
rest_of_line : (text : List ℕ) {u v : Place} (l : LineReading) → u.text ≡ text → IsLine u l v → AtEnd v → line_bytes text l ≡ drop u.at text
rest_of_line text {u} {v} l same line at_end =
    let last : l.end ≡ length text = omega (arith, line.ends, at_end, ap length (ahead_in_line line.inside).text, ap length same) in
    ap (λ n. take (n - l.start) (drop l.start text)) last ∙ take_to_end text l.start ∙ ap (λ n. drop n text) line.starts

-- the last line, blank or not
last_cut : (text : List ℕ) {u v : Place} (l : LineReading) (blank : Bool) → u.text ≡ text → IsLine u l v → AtEnd v
    → IsCharBoundary text u.at
    → is_blank_line text l ≡ blank
    → AreLinesCut text u.at (not blank) (cond blank [] (unit_of_line l ∷ []))
last_cut text l true same line at_end cut is = record {
  cut = AreCut.none
      (subst IsWhite (rest_of_line text l same line at_end)
      (and_parts (has_no_block l) (list_all is_ascii_whitespace (line_bytes text l)) is).1);
  first = λ is. absurd (test_clash false is refl);
  feed = λ is. tt;
}
last_cut text {u} {v} l false same line at_end cut is =
    let last : l.end ≡ length text = omega (arith, line.ends, at_end, ap length (ahead_in_line line.inside).text, ap length same) in
    record {
      cut = apart_cut text l [] same line (omega (arith, line.ends, last)) cut (cut_file text ((ahead_in_line line.inside).text ∙ same)
          (file.end at_end)) (λ empty. tt)
          (record {
            parts = _;
            ends = inl
                (ap (λ n. drop n text) last ∙ drop_all (length text) text (omega arith));
            whole = refl;
            cuts = λ start. start;
            separated = _;
          });
      first = λ is. record { unit = unit_of_line l; others = []; is = refl; starts = line.starts };
      feed = λ is. absurd (test_clash true refl is);
    }

-- a line before others, blank or not
more_cut : (text : List ℕ) {u end v : Place} (l : LineReading) (ls : List LineReading) (blank joins : Bool) → u.text ≡ text → IsLine u l end
    → CharAt end 10 v → is_blank_line text l ≡ blank → is_above text l ls ≡ joins
    → IsCharBoundary text u.at → AreLinesCut text v.at (begin_filled text ls) (line_units text ls)
    → AreLinesCut text u.at (not blank) (cond blank (line_units text ls) (with_line joins l (line_units text ls)))
more_cut text {u} {end} {v} l ls true joins same line feed is above cut others =
    let ahead = ahead_in_line line.inside in
    record {
      cut = blank_before text u.at (ahead.text ∙ same) feed ahead.at
          (omega (arith, char_within feed, ap length feed.same, ap length ahead.text, ap length same))
          (subst IsWhite (ap (λ n. between (place text n) (place text l.end)) line.starts
          ∙ ap (λ n. between (place text u.at) (place text n)) line.ends)
          (and_parts (has_no_block l) (list_all is_ascii_whitespace (line_bytes text l)) is).1)
          others.cut;
      first = λ is. absurd (test_clash false is refl);
      feed = λ is. feed_behind text u.at (line_units text ls) (ahead.text ∙ same) feed ahead.at others.cut;
    }
more_cut text {u} {end} {v} l ls false false same line feed is above cut others =
    let ahead = ahead_in_line line.inside in
    let next : AreNext text l.end (line_units text ls) =
    subst (λ n. AreNext text n (line_units text ls)) (sym line.ends) (next_from text (ahead.text ∙ same) feed others.cut) in
    let whole = line_apart l (line_units text ls) in
    let blank : has_no_block l ≡ true → HasBlankLine text l.end (line_units text ls) =
    λ empty.
    subst (λ n. HasBlankLine text n (line_units text ls)) (sym line.ends)
    (blank_behind text (line_units text ls) (ahead.text ∙ same) feed others.cut
    (others.feed (left_false (begin_filled text ls) (has_no_block l) above empty))) in
    record {
      cut = subst (AreCut text u.at) (sym whole)
          (apart_cut text l (line_units text ls) same line (omega (arith, char_left feed, ap length ahead.text, ap length same)) cut
          (subst (λ t. IsCharBoundary t end.at) (ahead.text ∙ same) (char_boundary feed)) blank next);
      first = λ is. record { unit = unit_of_line l; others = line_units text ls; is = whole; starts = line.starts };
      feed = λ is. absurd (test_clash true refl is);
    }
more_cut text {u} {end} {v} l ls false true same line feed is above cut others =
    let joins = and_parts (begin_filled text ls) (has_no_block l) above in
    let first = others.first joins.0 in
    let whole : with_line true l (line_units text ls)
    ≡ (record first.unit { start = l.start }) ∷ first.others = ap (with_line true l) first.is in
    record {
      cut = subst (AreCut text u.at) (sym whole)
          (joined_cut text l first.unit first.others same line feed joins.1 first.starts cut
          (subst (AreCut text v.at) first.is others.cut));
      first = λ is. record { unit = record first.unit { start = l.start }; others = first.others; is = whole; starts = line.starts };
      feed = λ is. absurd (test_clash true refl is);
    }

lines_cut : (text : List ℕ) {u : Place} {ls : List LineReading} → u.text ≡ text → AreLinesFrom u ls
    → AreLinesCut text u.at (begin_filled text ls) (line_units text ls)
lines_cut text same (AreLinesFrom.last {l = l} line at_end) =
    last_cut text l (is_blank_line text l) same line at_end (cut_file text same (lines_are_file (AreLinesFrom.last line at_end))) refl
lines_cut text same (AreLinesFrom.more {l = l} {ls = ls} line feed rest) =
    more_cut text l ls (is_blank_line text l) (is_above text l ls) same line feed refl refl
    (cut_file text same (lines_are_file (AreLinesFrom.more line feed rest)))
    (lines_cut text (feed.same ∙ (ahead_in_line line.inside).text ∙ same) rest)

-- ---- the parts of a text

-- units from an offset on, as parts
cut_parts : (text : List ℕ) (at : ℕ) (us : List UnitReading) → AreCut text at us
    → AreParts (parts_from text at us) (drop (end_of_units at us) text)
cut_parts text at [] (AreCut.none white) = AreParts.none white
cut_parts text at (u ∷ us)
    (AreCut.some after order fits start_cut end_cut white read blank others) = AreParts.some white read others.parts others.ends

-- the rest of a text is its parts from there on
cut_whole : (text : List ℕ) (at : ℕ) (us : List UnitReading) → AreCut text at us
    → drop at text ≡ text_of_parts (parts_from text at us) (drop (end_of_units at us) text)
cut_whole text at [] cut = refl
cut_whole text at (u ∷ us)
    (AreCut.some after order fits start_cut end_cut white read blank others) = whole_from text at u us after order others.whole

pub units_are_parts : (text : List ℕ) (units : List UnitReading) → AreUnits text units → AreItsParts text units
units_are_parts text units are =
    let cut : AreCut text 0 units = subst (AreCut text 0) (sym are.units_are) (lines_cut text refl are.are).cut in
    record { are = cut_parts text 0 units cut; whole = cut_whole text 0 units cut }

-- the units of a text may be cut out of it
pub units_cut : (text : List ℕ) (units : List UnitReading) → AreUnits text units → AreUnitsCut text 0 units
units_cut text units are = by units (subst (AreCut text 0) (sym are.units_are) (lines_cut text refl are.are).cut)
  where
    start : IsCharBoundary text 0
    start = cut_file text refl (lines_are_file are.are)

    by : (us : List UnitReading) → AreCut text 0 us → AreUnitsCut text 0 us
    by [] cut = start
    by (u ∷ us) (AreCut.some after order fits start_cut end_cut white read blank others) =
        cuts_from text 0 u us after order start_cut end_cut others.cuts start

-- a blank line is between each unit without blocks and the next unit
pub units_are_separated : (text : List ℕ) (units : List UnitReading) → AreUnits text units → AreSeparated text units
units_are_separated text units are = by units (subst (AreCut text 0) (sym are.units_are) (lines_cut text refl are.are).cut)
  where
    by : (us : List UnitReading) → AreCut text 0 us → AreSeparated text us
    by [] cut = tt
    by (u ∷ us) (AreCut.some after order fits start_cut end_cut white read blank others) = (blank, others.separated)
