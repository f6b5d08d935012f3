-- Gaps, and the byte offsets at which their bytes end.
use Rattle.std.proofs.Common.{◌≡◌, inl, inr, ℕ, zero, suc, ◌+◌, ◌-◌, ◌<◌, ◌≤◌, Bool, true, false, cond, ◌⊎◌, List, [], ◌∷◌, ◌++◌, length, drop, refl, sym, ap, ◌∙◌, subst, arith}
use Rattle.std.specs.Prelude.{◌==◌, ◌&&◌, not}
use Rattle.std.specs.Char.{is_ascii_whitespace, is_whitespace}
use Rattle.std.specs.List.{prefix_len}
use Rattle.std.proofs.lemmas.Bool.{cases_lt}
use Rattle.std.proofs.lemmas.Bool.Decides.{nat_tests}
use Rattle.std.proofs.lemmas.List.{drop-drop, length-drop, length-take, length-take-le, take-append-drop}
use Rattle.std.proofs.lemmas.List.Sums.{prefix_len-le-length}
use Rattle.std.proofs.lemmas.Str.{encode_ascii, len_utf8_ascii}
use Rattle.bib_text.specs.Places.{Place, place, CharAt, Longest, Run, Stops, between}
use Rattle.bib_text.specs.Places.Run.{stop, step}
use Rattle.bib_text.proofs.BoundaryFacts.{Border, not_over}
use Rattle.bib_text.proofs.PlaceFacts.{ahead_char, ahead_run, ahead_then, char_clash, longest_rest, runs_same, same_char, same_place, stops_at, test_clash}
use Rattle.bib_syntax.specs.Reading.{FieldReading}
use Rattle.bib_syntax.specs.Grammar.{Fields, Gap, LineComment, longest}
use Rattle.bib_syntax.specs.Grammar.{Fields as fields}
use Rattle.bib_syntax.specs.Grammar.{Gap as gap}
use Rattle.bib_syntax.proofs.LawFacts.{start_plain}
use Rattle.bib_text.proofs.BoolFacts.{and_true_left}
use Rattle.bib_queries.specs.Bytes.{has_byte_at}
use Rattle.edit_entries.specs.Unset.{after_bytes, gap_end, is_line_space, is_no_line_feed}
use Rattle.edit_entries.proofs.EditFacts.{ascii_stands, rest_stands}
use Rattle.edit_entries.proofs.UnsetFacts.{limit_of}
use Rattle.edit_entries.proofs.ValueFacts.{run_stands}
use Rattle.edit_entries.proofs.WhiteBeforeFacts.{white_ascii}

-- ---- bytes and characters

pub byte_drop : (text : List ℕ) (at c : ℕ) → has_byte_at text at c ≡ true → drop at text ≡ c ∷ drop (at + 1) text
byte_drop [] at c is = absurd (cc)
byte_drop (b ∷ bs) zero c is = let same : b ≡ c = grind (arith, nat_tests) in ap (λ x. x ∷ bs) same
byte_drop (b ∷ bs) (suc at) c is =
    let next : suc at + 1 ≡ suc (at + 1) = omega arith in
    byte_drop bs at c is ∙ ap (λ n. c ∷ drop n (b ∷ bs)) (sym next)

pub drop_byte : (text rest : List ℕ) (at c : ℕ) → drop at text ≡ c ∷ rest → has_byte_at text at c ≡ true
drop_byte [] rest zero c here = absurd (cc)
drop_byte [] rest (suc at) c here = absurd (cc)
drop_byte (b ∷ bs) rest zero c here = let same : b ≡ c = cc in grind (arith, nat_tests)
drop_byte (b ∷ bs) rest (suc at) c here = drop_byte bs rest at c here

pub byte_char : (text : List ℕ) (at c : ℕ) → c < 128 → has_byte_at text at c ≡ true → CharAt (place text at) c (place text (at + 1))
byte_char text at c small is = ascii_stands text (drop (at + 1) text) at c small (byte_drop text at c is)

pub char_byte : {u v : Place} (c : ℕ) → c < 128 → CharAt u c v → has_byte_at u.text u.at c ≡ true
char_byte {u} {v} c small char =
    drop_byte u.text (drop v.at u.text) u.at c (char.here ∙ ap (λ bs. bs ++ drop v.at u.text) (encode_ascii c small))

pub run_stopped : {u v : Place} → Run is_whitespace u v → Stops is_whitespace u → u ≡ v
run_stopped stop stops = refl
run_stopped (step {v = w} {c = c} first white rest) stops = absurd (test_clash (is_whitespace c) white (stops c w first))

-- ---- bytes that pass a test

bytes_run : (bytes test : ℕ → Bool) → ((b : ℕ) → bytes b ≡ true → (b < 128) × (test b ≡ true)) → (text xs rest : List ℕ) (at : ℕ)
    → drop at text ≡ xs ++ rest → Run test (place text at) (place text (at + prefix_len bytes xs))
bytes_run bytes test each text [] rest at here =
    let same : at ≡ at + 0 = omega arith in subst (λ n. Run test (place text at) (place text n)) same stop
bytes_run bytes test each text (x ∷ xs) rest at here =
    by_case (bytes x) refl (bytes_run bytes test each text xs rest (at + 1) (rest_stands text (xs ++ rest) at x here))
  where
    by_case : (b : Bool) → bytes x ≡ b → Run test (place text (at + 1)) (place text (at + 1 + prefix_len bytes xs))
        → Run test (place text at) (place text (at + cond b (1 + prefix_len bytes xs) 0))
    by_case true is others =
        let next : at + 1 + prefix_len bytes xs ≡ at + (1 + prefix_len bytes xs) = omega arith in
        let passes = each x is in
        step (ascii_stands text (xs ++ rest) at x passes.0 here) passes.1
        (subst (λ n. Run test (place text (at + 1)) (place text n)) next others)
    by_case false is others =
        let same : at ≡ at + 0 = omega arith in subst (λ n. Run test (place text at) (place text n)) same stop

-- the text from a byte offset on is the text up to another one and the rest
cut_here : (text : List ℕ) (start end : ℕ)
    → drop start text ≡ between (place text start) (place text end) ++ drop (end - start) (drop start text)
cut_here text start end = sym (take-append-drop (end - start) (drop start text))

pub white_after : (text : List ℕ) (at end : ℕ)
    → Run is_whitespace (place text at) (place text (after_bytes is_ascii_whitespace text at end))
white_after text at end =
    bytes_run is_ascii_whitespace is_whitespace white_ascii text (between (place text at) (place text end))
    (drop (end - at) (drop at text)) at (cut_here text at end)

blank_white : (b : ℕ) → is_line_space b ≡ true → (b < 128) × (is_whitespace b ≡ true)
blank_white b is = white_ascii b (and_true_left (is_ascii_whitespace b) (is_no_line_feed b) is)

pub blank_after : (text : List ℕ) (at end : ℕ) → Run is_whitespace (place text at) (place text (after_bytes is_line_space text at end))
blank_after text at end =
    bytes_run is_line_space is_whitespace blank_white text (between (place text at) (place text end)) (drop (end - at) (drop at text)) at
    (cut_here text at end)

in_prefix : (test : ℕ → Bool) (xs rest : List ℕ) (k c : ℕ) → k < prefix_len test xs → has_byte_at (xs ++ rest) k c ≡ true → test c ≡ true
in_prefix test [] rest k c less is = absurd (omega (arith, less))
in_prefix test (x ∷ xs) rest zero c less is =
    let same : x ≡ c = grind (arith, nat_tests) in by_case (test x) (ap test same) less
  where
    by_case : (b : Bool) → b ≡ test c → 0 < cond b (1 + prefix_len test xs) 0 → test c ≡ true
    by_case true is some = sym is
    by_case false is some = absurd (omega (arith, some))
in_prefix test (x ∷ xs) rest (suc k) c less is = by_case (test x) less (λ more. in_prefix test xs rest k c more is)
  where
    by_case : (b : Bool) → suc k < cond b (1 + prefix_len test xs) 0 → (k < prefix_len test xs → test c ≡ true) → test c ≡ true
    by_case true more others = others (omega (arith, more))
    by_case false more others = absurd (omega (arith, more))

pub before_end : (test : ℕ → Bool) (text : List ℕ) (at end k c : ℕ) → at ≤ k → k < after_bytes test text at end
    → has_byte_at text k c ≡ true → test c ≡ true
before_end test text at end k c from below is =
    let sum : at + (k - at) ≡ k = omega (arith, from) in
    let here : drop (k - at) (drop at text) ≡ c ∷ drop (k + 1) text =
    drop-drop (k - at) at text ∙ ap (λ n. drop n text) sum ∙ byte_drop text k c is in
    let found = drop_byte (drop at text) (drop (k + 1) text) (k - at) c here in
    in_prefix test (between (place text at) (place text end)) (drop (end - at) (drop at text)) (k - at) c (omega (arith, from, below))
    (subst (λ l. has_byte_at l (k - at) c ≡ true) (cut_here text at end) found)

pub byte_same : (text : List ℕ) (at c d : ℕ) → has_byte_at text at c ≡ true → has_byte_at text at d ≡ true → c ≡ d
byte_same text at c d first second =
    let same : c ∷ drop (at + 1) text ≡ d ∷ drop (at + 1) text = sym (byte_drop text at c first) ∙ byte_drop text at d second in
    cc

-- ---- runs

-- a run is two runs if a character begins at a byte offset within it
pub run_cut : {test : ℕ → Bool} {u v : Place} (text : List ℕ) (at : ℕ) → u.text ≡ text → Border (place text at) → Run test u v → u.at ≤ at
    → at ≤ v.at → Run test u (place text at) × Run test (place text at) v
run_cut {test} {u} text at same border stop from to =
    let here : u ≡ place text at = same_place {u = u} {v = place text at} same (omega (arith, from, to)) in
    (subst (λ p. Run test u p) here stop, subst (λ p. Run test p u) here stop)
run_cut {test} {u} {v} text at same border (step {v = w} char passes rest) from to =
    by_place (cases_lt u.at at) (λ before. run_cut text at (char.same ∙ same) border rest (not_over text at border same char before) to)
  where
    by_place : (u.at < at) ⊎ (at ≤ u.at) → (u.at < at → Run test w (place text at) × Run test (place text at) v)
        → Run test u (place text at) × Run test (place text at) v
    by_place (inl before) others = let parts = others before in (step char passes parts.0, parts.1)
    by_place (inr past) others =
        let here : u ≡ place text at = same_place {u = u} {v = place text at} same (omega (arith, from, past)) in
        (subst (λ p. Run test u p) here stop, subst (λ p. Run test p v) here (step char passes rest))

pub run_first : {test : ℕ → Bool} {u v w : Place} {c : ℕ} → Run test u v → u.at < v.at → CharAt u c w → test c ≡ true
run_first stop some char = absurd (omega (arith, some))
run_first {test} (step first passes rest) some char = subst (λ x. test x ≡ true) (same_char first char).0 passes

pub longest_after : {test : ℕ → Bool} {u v w : Place} → Run test u v → Longest test u w → Longest test v w
longest_after stop all = all
longest_after (step char passes rest) all = longest_after rest (longest_rest all char passes)

pub in_line_feed : (c : ℕ) → not (c == 10) ≡ false → c ≡ 10
in_line_feed c is = grind (arith, nat_tests)

-- ---- a line comment

-- if not all bytes pass a test, the byte after the longest prefix that passes fails it
stop_byte : (test : ℕ → Bool) (xs rest : List ℕ) → prefix_len test xs < length xs
    → (b : ℕ) × (has_byte_at (xs ++ rest) (prefix_len test xs) b ≡ true) × (test b ≡ false)
stop_byte test [] rest less = absurd (omega (arith, less))
stop_byte test (x ∷ xs) rest less = by_case (test x) refl less (stop_byte test xs rest)
  where
    by_case : (t : Bool) → test x ≡ t → cond t (1 + prefix_len test xs) 0 < length (x ∷ xs)
        → (prefix_len test xs < length xs → (b : ℕ) × (has_byte_at (xs ++ rest) (prefix_len test xs) b ≡ true) × (test b ≡ false))
        → (b : ℕ) × (has_byte_at (x ∷ (xs ++ rest)) (cond t (1 + prefix_len test xs) 0) b ≡ true) × (test b ≡ false)
    by_case false is less others = let here : (x == x) ≡ true = grind (arith, nat_tests) in (x, here, is)
    by_case true is less others =
        let found = others (omega (arith, less)) in
        let next : suc (prefix_len test xs) ≡ 1 + prefix_len test xs = omega arith in
        (found.0, subst (λ n. has_byte_at (x ∷ (xs ++ rest)) n found.0 ≡ true) next found.1, found.2)

pub stopped : (test : ℕ → Bool) (text : List ℕ) (start end : ℕ) → after_bytes test text start end < end → end ≤ length text
    → (b : ℕ) × (has_byte_at text (after_bytes test text start end) b ≡ true) × (test b ≡ false)
stopped test text start end less within =
    let xs : List ℕ = between (place text start) (place text end) in
    let k : ℕ = prefix_len test xs in
    let size : length xs ≡ end - start =
    length-take-le (end - start) (drop start text) (omega (arith, within, length-drop start text)) in
    let found = stop_byte test xs (drop (end - start) (drop start text)) (omega (arith, less, size)) in
    let here : has_byte_at (drop start text) k found.0 ≡ true =
    subst (λ l. has_byte_at l k found.0 ≡ true) (sym (cut_here text start end)) found.1 in
    let bytes : drop (start + k) text ≡ found.0 ∷ drop (k + 1) (drop start text) =
    sym (drop-drop k start text) ∙ byte_drop (drop start text) k found.0 here in
    (found.0, drop_byte text (drop (k + 1) (drop start text)) (start + k) found.0 bytes, found.2)

-- a line comment with a character after it ends at the first line feed, which is this character
pub comment_line : {w x : Place} {c : ℕ} (text : List ℕ) (sign end : ℕ) → LineComment (place text sign) w → CharAt w c x → w.at ≤ end
    → end ≤ length text → (w ≡ place text (after_bytes is_no_line_feed text sign end)) × (c ≡ 10) × (sign < w.at)
comment_line {w} {x} {c} text sign end m char below within =
    let n : ℕ = after_bytes is_no_line_feed text sign end in
    let is_feed = in_line_feed c (m.line.stops c x char) in
    let w_text : w.text ≡ text = (ahead_then (ahead_char m.sign) (ahead_run m.line.run)).text in
    let byte : has_byte_at text w.at 10 ≡ true =
    subst (λ t. has_byte_at t w.at 10 ≡ true) w_text (char_byte 10 (omega arith) (subst (λ d. CharAt w d x) is_feed char)) in
    let inside_at : m.inside.at ≡ sign + 1 = m.sign.next ∙ ap (λ i. sign + i) (len_utf8_ascii 37 (omega arith)) in
    let past : sign < w.at = omega (arith, inside_at, (ahead_run m.line.run).at) in
    let same =
    by_order (cases_lt n w.at) (cases_lt w.at n)
    (λ before.
    let found = stopped is_no_line_feed text sign end (omega (arith, before, below)) within in
    let feed : has_byte_at text n 10 ≡ true =
    subst (λ b. has_byte_at text n b ≡ true) (in_line_feed found.0 found.2) found.1 in
    let percent : has_byte_at text sign 37 ≡ true = char_byte 37 (omega arith) m.sign in
    let later : sign < n = by_place sign n (omega arith) (λ same. let clash : 37 ≡ 10 = byte_same text sign 37 10 percent
    (subst (λ i. has_byte_at text i 10 ≡ true) (sym same) feed) in absurd (omega (arith, clash))) in
    let feeds = byte_char text n 10 (omega arith) feed in
    let parts =
    run_cut text n m.sign.same (inr (10, place text (n + 1), feeds)) m.line.run (omega (arith, inside_at, later))
    (omega (arith, before)) in
    let passes = run_first parts.1 before feeds in test_clash (not (10 == 10)) passes refl)
    (λ after.
    let passes = before_end is_no_line_feed text sign end w.at 10 (omega (arith, past)) after byte in
    test_clash (not (10 == 10)) passes refl) w_text in
    (same, is_feed, past)
  where
    by_place : (i k : ℕ) → i ≤ k → (i ≡ k → i < k) → i < k
    by_place i k ordered differs =
        elim (cases_lt i k) [ inl before ↦ before | inr past ↦ differs (omega (arith, ordered, past)) ]

    by_order : {n : ℕ} → (n < w.at) ⊎ (w.at ≤ n) → (w.at < n) ⊎ (n ≤ w.at) → (n < w.at → ⊥) → (w.at < n → ⊥) → w.text ≡ text
        → w ≡ place text n
    by_order (inl before) other none1 none2 same = absurd (none1 before)
    by_order (inr up) (inl past) none1 none2 same = absurd (none2 past)
    by_order {n} (inr up) (inr down) none1 none2 same = same_place {u = w} {v = place text n} same (omega (arith, up, down))

-- ---- the end of a gap

-- a gap that ends before a character, at or before `end`, ends at `gap_end`. The byte there is ASCII and neither white space nor a percent
-- sign
pub gap_found : {v x : Place} {c : ℕ} (text : List ℕ) (at end b : ℕ) → Gap longest (place text at) v → CharAt v c x → v.at ≤ end
    → end ≤ length text → b < 128 → is_whitespace b ≡ false → (37 == b) ≡ false → has_byte_at text (gap_end text at end) b ≡ true
    → v ≡ place text (gap_end text at end)
gap_found {v} {x} {c} text at end b g char below within small dark plain = by_case (has_byte_at text s 37) refl g
  where
    s : ℕ
    s = after_bytes is_ascii_whitespace text at end

    n : ℕ
    n = after_bytes is_no_line_feed text s end

    by_case : (signed : Bool) → has_byte_at text s 37 ≡ signed → Gap longest (place text at) v
        → has_byte_at text (cond signed (after_bytes is_ascii_whitespace text n end) s) b ≡ true
        → v ≡ place text (cond signed (after_bytes is_ascii_whitespace text n end) s)
    by_case false sign (gap.white white ends) is =
        runs_same white.run white.stops (white_after text at end) (stops_at is_whitespace (byte_char text s b small is) dark)
    by_case false sign (gap.line_comment white m white') is =
        let found = byte_char text s b small is in
        let same = runs_same white.run white.stops (white_after text at end) (stops_at is_whitespace found dark) in
        absurd (char_clash (subst (λ p. CharAt p 37 m.inside) same m.sign) found plain)
    by_case true sign (gap.white white ends) is =
        let percent = byte_char text s 37 (omega arith) sign in
        let same = runs_same (white_after text at end) (stops_at is_whitespace percent refl) white.run white.stops in
        absurd (test_clash (37 == 37) refl (ends 37 (place text (s + 1)) (subst (λ p. CharAt p 37 (place text (s + 1))) same percent)))
    by_case true sign (gap.line_comment {w = w} white m white') is =
        let percent = byte_char text s 37 (omega arith) sign in
        let first = runs_same white.run white.stops (white_after text at end) (stops_at is_whitespace percent refl) in
        let next = run_stands white'.run char in
        let line =
        comment_line text s end (subst (λ p. LineComment p w) first m) next.here (omega (arith, (ahead_run white'.run).at, below)) within in
        let left : Longest is_whitespace (place text n) v = subst (λ p. Longest is_whitespace p v) line.0 white' in
        runs_same left.run left.stops (white_after text n end)
        (stops_at is_whitespace (byte_char text (after_bytes is_ascii_whitespace text n end) b small is) dark)

-- `gap_end` is at or after the start of the gap
pub gap_past : (text : List ℕ) (at end : ℕ) → at ≤ gap_end text at end
gap_past text at end = by_case (has_byte_at text (after_bytes is_ascii_whitespace text at end) 37)
  where
    s : ℕ
    s = after_bytes is_ascii_whitespace text at end

    by_case : (signed : Bool)
        → at ≤ cond signed (after_bytes is_ascii_whitespace text (after_bytes is_no_line_feed text s end) end) s
    by_case true = omega arith
    by_case false = omega arith

-- `after_bytes` is at most each byte offset that is at or after both ends
pub after_within : (test : ℕ → Bool) (text : List ℕ) (start end most : ℕ) → start ≤ most → end ≤ most
    → after_bytes test text start end ≤ most
after_within test text start end most first last =
    omega (
      arith,
      first,
      last,
      prefix_len-le-length test (between (place text start) (place text end)),
      length-take (end - start) (drop start text),
    )

pub gap_within : (text : List ℕ) (start end most : ℕ) → start ≤ most → end ≤ most → gap_end text start end ≤ most
gap_within text start end most first last = by_case (has_byte_at text s 37)
  where
    s : ℕ
    s = after_bytes is_ascii_whitespace text start end

    s_in : s ≤ most
    s_in = after_within is_ascii_whitespace text start end most first last

    by_case : (b : Bool) → cond b (after_bytes is_ascii_whitespace text (after_bytes is_no_line_feed text s end) end) s ≤ most
    by_case false = s_in
    by_case true =
        after_within is_ascii_whitespace text (after_bytes is_no_line_feed text s end) end most
        (after_within is_no_line_feed text s end most s_in last) last

-- ---- the fields after a gap

-- a character other than `%` is at a place with this byte offset
pub record Starts (u : Place) (at : ℕ) : Type 0 where
  pub char : ℕ
  pub next : Place
  pub here : CharAt u char next
  pub plain : (char == 37) ≡ false
  pub is : at ≡ u.at

pub fields_start : {u v w : Place} {fs : List FieldReading} → Fields longest u fs v → Stops is_whitespace u → CharAt v 125 w
    → Starts u (limit_of fs v.at)
unfolding limit_of
fields_start {u} {v} {w} (fields.none white) stops closes =
    let same = run_stopped white.run stops in
    record { char = 125; next = w; here = subst (λ p. CharAt p 125 w) (sym same) closes; plain = refl; is = ap (λ p. p.at) (sym same) }
fields_start (fields.last field gap) stops closes =
    let name = field.name in
    record {
      char = name.first;
      next = name.second;
      here = name.here;
      plain = start_plain name.first name.starts;
      is = ap (λ p. p.start) name.reading;
    }
fields_start (fields.more field gap comma gap' rest) stops closes =
    let name = field.name in
    record {
      char = name.first;
      next = name.second;
      here = name.here;
      plain = start_plain name.first name.starts;
      is = ap (λ p. p.start) name.reading;
    }

pub gap_stops : {u v : Place} → Gap longest u v → Stops is_whitespace v
gap_stops (gap.white white ends) = white.stops
gap_stops (gap.line_comment white m white') = white'.stops
