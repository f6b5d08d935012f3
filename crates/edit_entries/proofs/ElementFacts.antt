-- A piece of a value in another text.
use Rattle.std.proofs.Common.{◌≡◌, ℕ, ◌-◌, ◌<◌, ◌≤◌, true, false, List, [], ◌∷◌, ◌++◌, length, drop, codes, refl, sym, ap, ◌∙◌, arith, length-append}
use Rattle.std.specs.Prelude.{◌==◌, encode_utf8}
use Rattle.std.specs.Char.{is_ascii_digit}
use Rattle.std.specs.List.{ends_with}
use lib.Dec.{eqb}
use Rattle.std.specs.Cmp.Lexicographic.{pointwise}
use Rattle.std.proofs.lemmas.List.{drop_at}
use Rattle.std.proofs.lemmas.Str.{encode_ascii}
use Rattle.bib_text.specs.Places.{Place, place, CharAt, between}
use Rattle.bib_text.proofs.PlaceFacts.{Ahead, ahead_then, ahead_char, ahead_run, stops_at, char_within}
use Rattle.bib_syntax.specs.Characters.{is_id_continue}
use Rattle.bib_syntax.specs.Reading.{Part}
use Rattle.bib_syntax.specs.Grammar.{Identifier, Number, longest}
use Rattle.bib_syntax.specs.Grammar.{Number as number}
use Rattle.bib_syntax.proofs.FieldFacts.{ahead_identifier}
use Rattle.edit_entries.specs.Edits.{moved_part}
use Rattle.edit_entries.proofs.ZoneFacts.{Frame, Zone, Inside, there, inside_between, char_there, run_there, longest_there, part_there}
use Rattle.edit_entries.proofs.GrammarFacts.{below_char}
use Rattle.edit_entries.proofs.StandsFacts.{Stands, between_stands, joined, stands_between, stands_char}

-- ---- characters that can end a piece

pub record Ending (v : Place) : Type 0 where
  pub char : ℕ
  pub next : Place
  pub here : CharAt v char next
  pub no_name : is_id_continue char ≡ false
  pub no_digit : is_ascii_digit char ≡ false
  pub no_point : (char == 46) ≡ false

pub identifier_until : {f : Frame} {u v : Place} {p : Part} → Zone f → Inside f u → Inside f v → Ending (there f v)
    → Identifier longest u p v → Identifier longest (there f u) (moved_part f.move p) (there f v)
identifier_until {f} z iu iv ending i =
    let is = inside_between z iu iv (ahead_char i.here) (ahead_run i.rest.run) in
    record {
      second = there f i.second;
      first = i.first;
      here = char_there z iu is i.here;
      starts = i.starts;
      rest = record { run = run_there z is iv i.rest.run; stops = stops_at is_id_continue ending.here ending.no_name };
      reading = ap (moved_part f.move) i.reading ∙ sym (part_there z iu iv (ahead_identifier i));
    }

pub number_until : {f : Frame} {u v : Place} → Zone f → Inside f u → Inside f v → Ending (there f v)
    → Number longest u v → Number longest (there f u) (there f v)
number_until z iu iv ending (number.whole char digit digits ends) =
    let a = inside_between z iu iv (ahead_char char) (ahead_run digits.run) in
    number.whole (char_there z iu a char) digit
    (record { run = run_there z a iv digits.run; stops = stops_at is_ascii_digit ending.here ending.no_digit })
    (stops_at (λ d. d == 46) ending.here ending.no_point)
number_until {f} z iu iv ending (number.broken char digit digits point others ends) =
    let to_point = ahead_then (ahead_char point) (ahead_run others.run) in
    let a = inside_between z iu iv (ahead_char char) (ahead_then (ahead_run digits.run) to_point) in
    let b = inside_between z a iv (ahead_run digits.run) to_point in
    let c = inside_between z b iv (ahead_char point) (ahead_run others.run) in
    number.broken (char_there z iu a char) digit (longest_there z a b (below_char c point) digits) (char_there z b c point)
    (record { run = run_there z c iv others.run; stops = stops_at is_ascii_digit ending.here ending.no_digit })
    (stops_at (λ d. d == 46) ending.here ending.no_point)

-- ---- characters before a piece

abbrev pub before : Place → List ℕ
before u = between (place u.text 0) (place u.text u.at)

-- neither an opening brace nor a quote is directly before this place
pub record NotOpened (u : Place) : Type 0 where
  pub no_brace : ends_with eqb (before u) (codes "{") ≡ false
  pub no_quote : ends_with eqb (before u) (codes "\"") ≡ false

pub ends_last : (xs : List ℕ) (c d : ℕ) → ends_with eqb (xs ++ c ∷ []) (d ∷ []) ≡ pointwise eqb (d ∷ []) (c ∷ [])
ends_last xs c d =
    let size : length (xs ++ c ∷ []) - length (d ∷ []) ≡ length xs = omega (arith, length-append xs (c ∷ [])) in
    ap (λ n. pointwise eqb (d ∷ []) (drop n (xs ++ c ∷ []))) size ∙ ap (pointwise eqb (d ∷ [])) (drop_at xs (c ∷ []) (length xs) refl)

pub start_stands : (u : Place) → u.at ≤ length u.text → Stands (place u.text 0) (before u) u
start_stands u within = stands_between {u = place u.text 0} {v = u} (record { text = refl; at = omega arith }) within

-- the text of an ASCII character is its byte
pub one_byte : {u v : Place} (c : ℕ) → c < 128 → CharAt u c v → between u v ≡ c ∷ []
one_byte {u} {v} c small char = between_stands (encode_utf8 c) (stands_char char) ∙ encode_ascii c small

-- the text between two places is that up to a third one and that after it
pub parted : {u v w : Place} → Ahead u v → Ahead v w → w.at ≤ length u.text → between u w ≡ between u v ++ between v w
parted {u} {v} {w} first rest within =
    let size : length v.text ≡ length u.text = ap length first.text in
    between_stands (between u v ++ between v w)
    (joined (between u v) (between v w) (stands_between first (omega (arith, rest.at)))
    (stands_between rest (omega arith)))

-- the text between two places is the bytes of its first character and the text after it
pub char_parted : {u w v : Place} {c : ℕ} → CharAt u c w → Ahead w v → v.at ≤ length u.text → between u v ≡ encode_utf8 c ++ between w v
char_parted {u} {w} {v} {c} char ahead within =
    parted (ahead_char char) ahead within
    ∙ ap (λ t. t ++ between w v) (between_stands (encode_utf8 c) (stands_char char))

-- the text up to the end of an ASCII character is the text before it and its byte
pub before_char : {u v : Place} (c : ℕ) → c < 128 → CharAt u c v → before v ≡ before u ++ c ∷ []
before_char {u} {v} c small char =
    let within : v.at ≤ length u.text = omega (arith, char_within char, ap length char.same) in
    let from : Ahead (place u.text 0) u = record { text = refl; at = omega arith } in
    ap (λ t. between (place t 0) (place t v.at)) char.same
    ∙ parted {u = place u.text 0} {v = u} {w = v} from (ahead_char char) within
    ∙ ap (λ t. before u ++ t) (one_byte c small char)

pub brace_before : {u v : Place} → CharAt u 123 v → ends_with eqb (before v) (codes "{") ≡ true
brace_before {u} {v} char = ap (λ t. ends_with eqb t (codes "{")) (before_char 123 (omega arith) char) ∙ ends_last (before u) 123 123

pub quote_before : {u v : Place} → CharAt u 34 v
    → (ends_with eqb (before v) (codes "{") ≡ false) × (ends_with eqb (before v) (codes "\"") ≡ true)
quote_before {u} {v} char = (
  ap (λ t. ends_with eqb t (codes "{")) (before_char 34 (omega arith) char) ∙ ends_last (before u) 34 123,
  ap (λ t. ends_with eqb t (codes "\"")) (before_char 34 (omega arith) char) ∙ ends_last (before u) 34 34,
)
