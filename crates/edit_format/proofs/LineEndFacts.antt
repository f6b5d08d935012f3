-- The line end of a text in one style is that of the text.
use Rattle.std.proofs.Common.{◌≡◌, inl, inr, ℕ, suc, Option, None, Some, ◌+◌, ◌-◌, ◌≤◌, Bool, true, false, cond, List, [], ◌∷◌, ◌++◌, length, drop, take, refl, sym, ap, ◌∙◌, arith, append_assoc, length-append}
use Rattle.std.specs.Prelude.{◌==◌, ◌&&◌, ◌||◌, encode_utf8, nat_lt, not}
use Rattle.std.specs.Char.{to_ascii_lowercase}
use Rattle.std.specs.List.{ends_with, flat_map, position_or_len}
use Rattle.std.specs.Str.{str_to_ascii_lowercase}
use lib.Dec.{eqb}
use Rattle.std.specs.Cmp.Lexicographic.{pointwise}
use Rattle.std.proofs.lemmas.Bool.{cases_lt, eqb-true, lt-ltb, ne_eqb, or_from}
use Rattle.std.proofs.lemmas.List.{take_at}
use Rattle.std.proofs.lemmas.List.Folds.{list_any-append}
use Rattle.std.proofs.lemmas.Str.Ascii.{lowercase_is}
use Rattle.bib_text.specs.Places.{Place, place, between}
use Rattle.bib_text.proofs.PlaceFacts.{ahead_then, ahead_char, ahead_run, char_within}
use Rattle.bib_text.proofs.BoolFacts.{or_false_left}
use Rattle.bib_syntax.specs.Characters.{is_key, is_id_continue, is_id_start}
use Rattle.bib_syntax.specs.Reading.{Part, FieldReading, EntryReading, FileReading}
use Rattle.bib_syntax.specs.Grammar.{Identifier, longest}
use Rattle.bib_syntax.proofs.FieldFacts.{ahead_fields, ahead_gap, ahead_identifier}
use Rattle.edit_entries.proofs.EntryFacts.{ahead_to_fields}
use Rattle.edit_entries.proofs.SplitFacts.{EntryBlock, ahead_file_before}
use Rattle.edit_format.specs.Formatted.{entry_in_style, entry_laid_out, field_laid_out, gap_in_style, is_copied, last_comma, line_end_of, line_ends, padded_width, rest_in_style}
use Rattle.edit_format.specs.Ordered.{in_order, order_of}
use Rattle.edit_format.specs.declared.style.Style.{Style}
use Rattle.edit_format.proofs.ByteFacts.{char_without, has, none_append, other_char, run_without}
use Rattle.edit_entries.proofs.ElementFacts.{ends_last, one_byte, parted}
use Rattle.edit_format.proofs.GapFacts.{are_blank}
use Rattle.edit_format.proofs.OrderFacts.{last_ordered}
use Rattle.edit_entries.proofs.ByEntriesFacts.{ByEntries}
use Rattle.edit_entries.proofs.StandsFacts.{between_stands, stands_between, stands_char}

-- ---- the first line of a text

-- the line end, given whether the first line ends with a carriage return
abbrev by_return : Bool → List ℕ
by_return c = cond c (13 ∷ 10 ∷ []) (10 ∷ [])

-- the line end, given the first line
abbrev by_line : List ℕ → List ℕ
by_line line = by_return (ends_with eqb line (13 ∷ []))

abbrev position : List ℕ → ℕ
position text = position_or_len (λ b. eqb b 10) text

position_is : (line rest : List ℕ) → has 10 line ≡ false → position (line ++ 10 ∷ rest) ≡ length line
position_is [] rest none = refl
position_is (b ∷ bs) rest none = by_test (b == 10) (has 10 bs) none (position_is bs rest)
  where
    by_test : (x y : Bool) → (x || y) ≡ false → (y ≡ false → position (bs ++ 10 ∷ rest) ≡ length bs)
        → cond (not x) (1 + position (bs ++ 10 ∷ rest)) 0 ≡ suc (length bs)
    by_test false false none later = let at : position (bs ++ 10 ∷ rest) ≡ length bs = later refl in omega (arith, at)
    by_test true y none later = absurd (cc)
    by_test false true none later = absurd (cc)

line_is : (line rest : List ℕ) → has 10 line ≡ false → line_end_of (line ++ 10 ∷ rest) ≡ by_line line
line_is line rest none =
    let text : List ℕ = line ++ 10 ∷ rest in
    let at : position text ≡ length line = position_is line rest none in
    let within : nat_lt (length line) (length text) ≡ true =
    lt-ltb (length line) (length text) (omega (arith, length-append line (10 ∷ rest))) in
    ap (λ n. by_return (nat_lt n (length text) && ends_with eqb (take n text) (13 ∷ []))) at
    ∙ ap (λ l. by_return (nat_lt (length line) (length text) && ends_with eqb l (13 ∷ []))) (take_at line (10 ∷ rest) (length line) refl)
    ∙ ap (λ c. by_return (c && ends_with eqb line (13 ∷ []))) within

-- a text begins with a line and a line feed
record Line (text : List ℕ) : Type 0 where
  line : List ℕ
  rest : List ℕ
  none : has 10 line ≡ false
  is : text ≡ line ++ 10 ∷ rest

first_line : (text : List ℕ) → has 10 text ≡ true → Line text
first_line [] some = absurd (cc)
first_line (b ∷ bs) some = by_test (b == 10) refl (first_line bs)
  where
    later : (x y : Bool) → x ≡ false → (x || y) ≡ true → y ≡ true
    later false y is some = some
    later true y is some = absurd (cc)

    by_test : (x : Bool) → (b == 10) ≡ x → (has 10 bs ≡ true → Line bs) → Line (b ∷ bs)
    by_test true is rest = record { line = []; rest = bs; none = refl; is = ap (λ c. c ∷ bs) (eqb-true b 10 is) }
    by_test false is rest =
        let l = rest (later (b == 10) (has 10 bs) is some) in
        record { line = b ∷ l.line; rest = l.rest; none = or_from (b == 10) (has 10 l.line) is l.none; is = ap (λ t. b ∷ t) l.is }

-- the line end doesn't depend on the text after the first line feed
same_start : (start xs ys : List ℕ) → has 10 start ≡ true → line_end_of (start ++ xs) ≡ line_end_of (start ++ ys)
same_start start xs ys some =
    let l = first_line start some in
    let split = λ (t : List ℕ). ap (λ s. s ++ t) l.is ∙ append_assoc l.line (10 ∷ l.rest) t in
    ap line_end_of (split xs) ∙ line_is l.line (l.rest ++ xs) l.none ∙ sym (line_is l.line (l.rest ++ ys) l.none)
    ∙ ap line_end_of (sym (split ys))

-- the two line ends
pub data LineEnd : List ℕ → Type 0 where
  return_and_feed : LineEnd (13 ∷ 10 ∷ [])
  feed : LineEnd (10 ∷ [])

pub line_end_cases : (text : List ℕ) → LineEnd (line_end_of text)
line_end_cases text = by_choice _
  where
    by_choice : (b : Bool) → LineEnd (cond b (13 ∷ 10 ∷ []) (10 ∷ []))
    by_choice true = LineEnd.return_and_feed
    by_choice false = LineEnd.feed

-- a byte is neither a line feed nor a carriage return
record EndsNoLine (b : ℕ) : Type 0 where
  no_feed : (b == 10) ≡ false
  no_return : pointwise eqb (13 ∷ []) (b ∷ []) ≡ false

-- if the first line feed of a text ends a line end after such a byte, this is the line end of the text
after_byte : {line_end : List ℕ} (b : ℕ) (start rest : List ℕ) → EndsNoLine b → LineEnd line_end → has 10 start ≡ false
    → line_end_of (start ++ b ∷ (line_end ++ rest)) ≡ line_end
after_byte b start rest other LineEnd.return_and_feed none =
    let line : List ℕ = start ++ b ∷ 13 ∷ [] in
    let clear : has 10 line ≡ false = none_append 10 start (b ∷ 13 ∷ []) none (ap (λ c. c || has 10 (13 ∷ [])) other.no_feed) in
    let split : start ++ b ∷ 13 ∷ 10 ∷ rest ≡ line ++ 10 ∷ rest = sym (append_assoc start (b ∷ 13 ∷ []) (10 ∷ rest)) in
    ap line_end_of split ∙ line_is line rest clear
    ∙ ap by_line (sym (append_assoc start (b ∷ []) (13 ∷ []))) ∙ ap by_return (ends_last (start ++ b ∷ []) 13 13)
after_byte b start rest other LineEnd.feed none =
    let line : List ℕ = start ++ b ∷ [] in
    let clear : has 10 line ≡ false = none_append 10 start (b ∷ []) none (ap (λ c. c || has 10 []) other.no_feed) in
    let split : start ++ b ∷ 10 ∷ rest ≡ line ++ 10 ∷ rest = sym (append_assoc start (b ∷ []) (10 ∷ rest)) in
    ap line_end_of split ∙ line_is line rest clear ∙ ap by_return (ends_last start b 13 ∙ other.no_return)

-- ---- the first line of an entry in a new layout

lower_same : (b : ℕ) → (to_ascii_lowercase b == 10) ≡ (b == 10)
lower_same b =
    elim (cases_lt b 65) [
      | inl below ↦ ap (λ c. c == 10) ((lowercase_is b).1 below)
      | inr from ↦ elim (cases_lt 90 b) [
        | inl above ↦ ap (λ c. c == 10) ((lowercase_is b).2 above)
        | inr to ↦ ap (λ c. c == 10) ((lowercase_is b).0 (from, to)) ∙ ne_eqb (b + 32) 10 (λ same. omega (arith, same))
            ∙ sym (ne_eqb b 10 (λ same. omega (arith, same)))
      ]
    ]

lower_has : (bytes : List ℕ) → has 10 (str_to_ascii_lowercase bytes) ≡ has 10 bytes
lower_has [] = refl
lower_has (b ∷ bs) = ap (λ c. c || has 10 (str_to_ascii_lowercase bs)) (lower_same b) ∙ ap (λ c. (b == 10) || c) (lower_has bs)

name_without : {u v : Place} {p : Part} → Identifier longest u p v → v.at ≤ length u.text → has 10 p.text ≡ false
name_without {u} {v} i within =
    ap (λ p. has 10 p.text) i.reading
    ∙ ap (has 10)
    (parted (ahead_char i.here) (ahead_run i.rest.run) within
    ∙ ap (λ t. t ++ between i.second v) (between_stands (encode_utf8 i.first) (stands_char i.here)))
    ∙ none_append 10 (encode_utf8 i.first) (between i.second v)
    (char_without 10 i.first (omega arith) (other_char is_id_start 10 i.first refl i.starts))
    (run_without is_id_continue 10 (omega arith) refl i.rest.run (omega (arith, within, ap length i.here.same)))

-- bytes begin with a comma and a line end
record Comma (line_end bytes : List ℕ) : Type 0 where
  rest : List ℕ
  is : bytes ≡ 44 ∷ (line_end ++ rest)

comma_first : (line_end : List ℕ) (style : Style) (text : List ℕ) (width : ℕ) (fs : List FieldReading) (tail : List ℕ)
    → Comma line_end (flat_map (field_laid_out line_end style text width) fs ++ (last_comma style fs ++ (line_end ++ tail)))
comma_first line_end style text width [] tail = record { rest = tail; is = refl }
comma_first line_end style text width (f ∷ fs) tail =
    record {
      rest = _;
      is =
          append_assoc (field_laid_out line_end style text width f)
          (flat_map (field_laid_out line_end style text width) fs) (last_comma style (f ∷ fs) ++ (line_end ++ tail))
          ∙ ap (λ t. 44 ∷ t)
          (append_assoc line_end _
          (flat_map (field_laid_out line_end style text width) fs
          ++ (last_comma style (f ∷ fs) ++ (line_end ++ tail))));
    }

-- the first line of an entry without its comma
abbrev head_of : EntryReading → List ℕ
head_of e = 64 ∷ (str_to_ascii_lowercase e.kind.text ++ (123 ∷ e.key.text))

head_without : {a b : Place} {e : EntryReading} → EntryBlock a e b → has 10 (head_of e) ≡ false
head_without {a} {b} {e} x =
    let from_fields = ahead_then (ahead_fields x.fields) (ahead_char x.closes) in
    let from_key = ahead_then (ahead_run x.white.run) (ahead_then (ahead_char x.comma) (ahead_then (ahead_gap x.gap) from_fields)) in
    let from_inside = ahead_then (ahead_run x.key.run) from_key in
    let from_name = ahead_then (ahead_run x.head.white.run) (ahead_then (ahead_char x.head.opens) (ahead_run x.head.white'.run)) in
    let end_within : b.at ≤ length b.text = char_within x.closes in
    let key_within : x.key_end.at ≤ length x.inside.text = omega (arith, from_key.at, end_within, ap length from_inside.text) in
    let name_text = ahead_then (ahead_identifier x.head.name) (ahead_then from_name from_inside) in
    let name_within : x.head.name_end.at ≤ length x.head.name_start.text =
    omega (arith, from_name.at, from_inside.at, end_within, ap length name_text.text) in
    let kind : has 10 (str_to_ascii_lowercase e.kind.text) ≡ false = lower_has e.kind.text ∙ name_without x.head.name name_within in
    let key : has 10 e.key.text ≡ false =
    ap (λ p. has 10 p.text) x.key_is ∙ run_without is_key 10 (omega arith) refl x.key.run key_within in
    none_append 10 (str_to_ascii_lowercase e.kind.text) (123 ∷ e.key.text) kind key

-- a text with an entry in a new layout has a comma and a line end after the head of the entry
record FirstLine (line_end start bytes following : List ℕ) (e : EntryReading) : Type 0 where
  rest : List ℕ
  is : start ++ (bytes ++ following) ≡ (start ++ head_of e) ++ 44 ∷ (line_end ++ rest)

entry_line : (line_end : List ℕ) (style : Style) (text start following : List ℕ) (e : EntryReading)
    → FirstLine line_end start (entry_laid_out line_end style text e) following e
entry_line line_end style text start following e =
    let names = order_of style in
    let fs = in_order names e.fields in
    let write = field_laid_out line_end style text (padded_width style e.fields) in
    let c = comma_first line_end style text (padded_width style e.fields) fs (125 ∷ []) in
    let kind = str_to_ascii_lowercase e.kind.text in
    let whole : entry_laid_out line_end style text e ≡ head_of e ++ 44 ∷ (line_end ++ c.rest) =
    ap (λ t. 64 ∷ (kind ++ (123 ∷ (e.key.text ++ (flat_map write fs ++ (t ++ (line_end ++ 125 ∷ [])))))))
    (sym (last_ordered style names e.fields))
    ∙ ap (λ t. 64 ∷ (kind ++ (123 ∷ (e.key.text ++ t)))) c.is
    ∙ ap (λ t. 64 ∷ t) (sym (append_assoc kind (123 ∷ e.key.text) (44 ∷ (line_end ++ c.rest)))) in
    record {
      rest = c.rest ++ following;
      is = ap (λ t. start ++ (t ++ following)) whole ∙ ap (λ t. start ++ t) (append_assoc (head_of e) (44 ∷ (line_end ++ c.rest)) following)
          ∙ ap (λ t. start ++ (head_of e ++ 44 ∷ t)) (append_assoc line_end c.rest following)
          ∙ sym (append_assoc start (head_of e) (44 ∷ (line_end ++ (c.rest ++ following))));
    }

-- ---- a text in one style

-- the rest of a text from one place on is the part up to another place, and the rest from there on
parted_at : (start : List ℕ) {u v : Place} → u.at ≤ v.at → v.text ≡ u.text → v.at ≤ length u.text
    → start ++ drop u.at u.text ≡ (start ++ between u v) ++ drop v.at v.text
parted_at start {u} {v} ordered same within =
    let s = stands_between {u = u} {v = v} (record { text = same; at = ordered }) within in
    ap (λ t. start ++ t) (s.here ∙ ap (λ t. between u v ++ drop v.at t) (sym same))
    ∙ sym (append_assoc start (between u v) (drop v.at v.text))

first_clear : (first start : List ℕ) → start ≡ first ++ 125 ∷ [] → has 10 start ≡ false → has 10 first ≡ false
first_clear first start is clear =
    or_false_left (has 10 first) (has 10 (125 ∷ []))
    (sym (list_any-append (λ x. x == 10) first (125 ∷ [])) ∙ ap (has 10) (sym is) ∙ clear)

-- no number of blank lines is given, or the text before a gap ends with a closing brace
pub data InFront (blank_lines : Option ℕ) (start : List ℕ) : Type 0 where
  stays : blank_lines ≡ None → InFront blank_lines start
  after_brace : (first : List ℕ) → start ≡ first ++ 125 ∷ [] → InFront blank_lines start

-- the output for a gap is a copy, or it begins with a line end after a closing brace
data GapCases (line_end : List ℕ) (blank_lines : Option ℕ) (start gap : List ℕ) : Type 0 where
  as_it_was : gap_in_style line_end blank_lines gap ≡ gap → GapCases line_end blank_lines start gap
  lines : (first rest : List ℕ) → start ≡ first ++ 125 ∷ [] → gap_in_style line_end blank_lines gap ≡ line_end ++ rest
      → GapCases line_end blank_lines start gap

gap_cases : (line_end : List ℕ) (blank_lines : Option ℕ) (start gap : List ℕ) → InFront blank_lines start
    → GapCases line_end blank_lines start gap
gap_cases line_end None start gap front = GapCases.as_it_was refl
gap_cases line_end (Some count) start gap (InFront.stays none) = absurd (cc)
gap_cases line_end (Some count) start gap (InFront.after_brace first is) = by_white (are_blank gap) refl
  where
    by_white : (c : Bool) → are_blank gap ≡ c → GapCases line_end (Some count) start gap
    by_white true white = GapCases.lines first (line_ends line_end count) is (ap (λ c. cond c (line_ends line_end (suc count)) gap) white)
    by_white false dark = GapCases.as_it_was (ap (λ c. cond c (line_ends line_end (suc count)) gap) dark)

pub lines_end : (line_end : List ℕ) (style : Style) (blank_lines : Option ℕ) (start : List ℕ) {a : Place}
    {says : FileReading} → LineEnd line_end → InFront blank_lines start → ByEntries a says → a.at ≤ length a.text
    → line_end_of (start ++ drop a.at a.text) ≡ line_end
    → line_end_of (start ++ rest_in_style line_end style blank_lines a.text a.at says.entries) ≡ line_end
lines_end line_end style blank_lines start {a} way front (ByEntries.last x none) within is =
    ap (λ es. line_end_of (start ++ rest_in_style line_end style blank_lines a.text a.at es)) none ∙ is
lines_end line_end style blank_lines start {a} way front
    (ByEntries.more {s = s} {v = v} {before = before} {rest = rest} {e = e} first none x file' others) within is =
    let to_start = ahead_file_before first in
    let to_brace = ahead_then (ahead_to_fields x) (ahead_fields x.fields) in
    let to_end = ahead_then to_brace (ahead_char x.closes) in
    let end_within : v.at ≤ length v.text = char_within x.closes in
    let next : v.at ≡ x.brace.at + 1 = x.closes.next in
    let end_is : e.end + 1 ≡ v.at = omega (arith, x.ends) in
    let end_text : v.text ≡ a.text = to_end.text ∙ to_start.text in
    let start_within : s.at ≤ length a.text = omega (arith, to_end.at, end_within, ap length end_text) in
    let entry_bytes = entry_in_style line_end style a.text e in
    let rest_bytes = rest_in_style line_end style style.blank_lines a.text (e.end + 1) rest.entries in
    let whole : start ++ rest_in_style line_end style blank_lines a.text a.at (before.entries ++ e ∷ rest.entries)
    ≡ start ++ (gap_in_style line_end blank_lines (between a s) ++ (entry_bytes ++ rest_bytes)) =
    ap (λ es. start ++ rest_in_style line_end style blank_lines a.text a.at (es ++ e ∷ rest.entries)) none
    ∙ ap (λ n. start ++ (gap_in_style line_end blank_lines (take (n - a.at) (drop a.at a.text)) ++ (entry_bytes ++ rest_bytes))) x.starts in
    let old : start ++ drop a.at a.text ≡ (start ++ between a s) ++ drop s.at s.text =
    parted_at start {u = a} {v = s} to_start.at to_start.text start_within in
    let mid : List ℕ = start ++ between a s in
    let old_is : line_end_of (mid ++ drop s.at s.text) ≡ line_end = ap line_end_of (sym old) ∙ is in
    let laid_out : is_copied a.text e ≡ false → entry_bytes ≡ entry_laid_out line_end style a.text e =
    λ clear. ap (λ c. cond c (between (place a.text e.start) (place a.text (e.end + 1))) (entry_laid_out line_end style a.text e)) clear in
    let kept : is_copied a.text e ≡ true → entry_bytes ≡ between s v =
    λ some. ap (λ c. cond c (between (place a.text e.start) (place a.text (e.end + 1))) (entry_laid_out line_end style a.text e)) some
    ∙ ap (λ n. between (place a.text n) (place a.text (e.end + 1))) x.starts
    ∙ ap (λ n. take (n - s.at) (drop s.at a.text)) end_is
    ∙ ap (λ t. take (v.at - s.at) (drop s.at t)) (sym to_start.text) in
    let past : List ℕ = mid ++ between s v in
    let past_is : line_end_of (past ++ drop v.at v.text) ≡ line_end =
    ap line_end_of
    (sym
    (parted_at mid {u = s} {v = v} to_end.at to_end.text (omega (arith, end_within, ap length to_end.text))))
    ∙ old_is in
    let brace : between s v ≡ between s x.brace ++ 125 ∷ [] =
    parted to_brace (ahead_char x.closes) (omega (arith, end_within, ap length to_end.text))
    ∙ ap (λ t. between s x.brace ++ t) (one_byte 125 (omega arith) x.closes) in
    let in_front : InFront style.blank_lines past =
    InFront.after_brace (mid ++ between s x.brace) (ap (λ t. mid ++ t) brace ∙ sym (append_assoc mid (between s x.brace) (125 ∷ []))) in
    let later : line_end_of (past ++ rest_in_style line_end style style.blank_lines v.text v.at rest.entries) ≡ line_end =
    lines_end line_end style style.blank_lines past {a = v} {says = rest} way in_front others end_within past_is in
    let rest_same : rest_in_style line_end style style.blank_lines v.text v.at rest.entries ≡ rest_bytes =
    ap (λ t. rest_in_style line_end style style.blank_lines t v.at rest.entries) end_text
    ∙ ap (λ n. rest_in_style line_end style style.blank_lines a.text n rest.entries) (sym end_is) in
    let by_kept : is_copied a.text e ≡ true → line_end_of (mid ++ (entry_bytes ++ rest_bytes)) ≡ line_end =
    λ some.
    ap (λ t. line_end_of (mid ++ (t ++ rest_bytes))) (kept some)
    ∙ ap line_end_of (sym (append_assoc mid (between s v) rest_bytes))
    ∙ ap (λ t. line_end_of (past ++ t)) (sym rest_same) ∙ later in
    let by_laid_out : has 10 mid ≡ false → is_copied a.text e ≡ false → line_end_of (mid ++ (entry_bytes ++ rest_bytes)) ≡ line_end =
    λ none_mid clear.
    let l = entry_line line_end style a.text mid rest_bytes e in
    ap (λ t. line_end_of (mid ++ (t ++ rest_bytes))) (laid_out clear) ∙ ap line_end_of l.is
    ∙ after_byte 44 (mid ++ head_of e) l.rest (record { no_feed = refl; no_return = refl }) way
    (none_append 10 mid (head_of e) none_mid (head_without x)) in
    let by_same : gap_in_style line_end blank_lines (between a s) ≡ between a s
    → line_end_of (start ++ (gap_in_style line_end blank_lines (between a s) ++ (entry_bytes ++ rest_bytes))) ≡ line_end =
    λ same.
    ap (λ t. line_end_of (start ++ (t ++ (entry_bytes ++ rest_bytes)))) same
    ∙ ap line_end_of (sym (append_assoc start (between a s) (entry_bytes ++ rest_bytes)))
    ∙ by_cases (has 10 mid) (is_copied a.text e) refl refl
    (λ some. same_start mid (entry_bytes ++ rest_bytes) (drop s.at s.text) some ∙ old_is) by_kept by_laid_out in
    ap line_end_of whole
    ∙ by_gap line_end blank_lines start (between a s) (entry_bytes ++ rest_bytes) way (drop a.at a.text) is by_same
    (gap_cases line_end blank_lines start (between a s) front)
  where
    by_cases : {L : Type 0} (h c : Bool) {x y : Bool} → x ≡ h → y ≡ c → (x ≡ true → L) → (y ≡ true → L) → (x ≡ false → y ≡ false → L) → L
    by_cases true c first second some kept laid_out = some first
    by_cases false true first second some kept laid_out = kept second
    by_cases false false first second some kept laid_out = laid_out first second

    by_feed : {L : Type 0} (h : Bool) {x : Bool} → x ≡ h → (x ≡ true → L) → (x ≡ false → L) → L
    by_feed true is some none = some is
    by_feed false is some none = none is

    by_gap : (line_end : List ℕ) (blank_lines : Option ℕ) (start gap following : List ℕ) → LineEnd line_end
        → (old : List ℕ) → line_end_of (start ++ old) ≡ line_end
        →
        (gap_in_style line_end blank_lines gap ≡ gap
        → line_end_of (start ++ (gap_in_style line_end blank_lines gap ++ following)) ≡ line_end)
        → GapCases line_end blank_lines start gap
        → line_end_of (start ++ (gap_in_style line_end blank_lines gap ++ following)) ≡ line_end
    by_gap line_end blank_lines start gap following way old is by_same (GapCases.as_it_was same) = by_same same
    by_gap line_end blank_lines start gap following way old is by_same (GapCases.lines first rest brace new) =
        by_feed (has 10 start) refl (λ some. same_start start _ old some ∙ is)
        (λ clear. ap (λ t. line_end_of (start ++ (t ++ following))) new
        ∙ ap (λ t. line_end_of (t ++ ((line_end ++ rest) ++ following))) brace
        ∙ ap line_end_of (append_assoc first (125 ∷ []) ((line_end ++ rest) ++ following))
        ∙ ap (λ t. line_end_of (first ++ 125 ∷ t)) (append_assoc line_end rest following)
        ∙ after_byte 125 first (rest ++ following) (record { no_feed = refl; no_return = refl }) way (first_clear first start brace clear))
