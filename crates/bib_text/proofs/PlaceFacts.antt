-- Facts about places and the characters between them.
use Rattle.std.proofs.Common.{◌≡◌, ℕ, ◌+◌, ◌-◌, ◌^◌, ◌<◌, ◌≤◌, Bool, true, false, List, ◌++◌, length, drop, get_or, refl, sym, ap, ◌∙◌, subst, arith, length-append, length-drop, inl, inr, nat_eq, MatchBool, MatchOption, Option, None, Some}
use Rattle.std.specs.Prelude.{encode_utf8, ◌==◌}
use Rattle.std.specs.Char.{is_whitespace, len_utf8}
use Rattle.std.specs.Str.{IsUtf8, IsCharBoundary}
use Rattle.std.proofs.lemmas.Str.{encode_same, drop_past_char, length-encode, len_utf8_bounds, len_utf8_ascii, encode_ascii, IsUtf8-drop, IsCharBoundary-past_char}
use Rattle.std.proofs.lemmas.List.{drop_more}
use Rattle.std.proofs.lemmas.Bool.{cases_eq, eq-eqb, ne_eqb, eqb-false}
use Rattle.bib_text.specs.Places.{Place, place, CharAt, Run, Stops, Longest, AllBetween, AtEnd, EndsOr}
use Rattle.bib_text.specs.Places.{AllBetween as each}
use Rattle.bib_text.specs.Places.Run.{stop, step}

-- two places with the same text and the same offset are equal
pub same_place : {u v : Place} → u.text ≡ v.text → u.at ≡ v.at → u ≡ v
same_place {u} {v} texts places = ap (λ t. place t u.at) texts ∙ ap (place v.text) places

-- if the text from an offset begins with the bytes of a character, this character is there
pub char_here : (text rest : List ℕ) (at c : ℕ) → drop at text ≡ encode_utf8 c ++ rest
    → CharAt (place text at) c (place text (at + len_utf8 c))
char_here text rest at c here = record {
  same = refl;
  here = here ∙ ap (λ r. encode_utf8 c ++ r) (sym (drop_past_char text rest at c here));
  next = refl;
}

-- an ASCII byte is a character
pub ascii_here : (text : List ℕ) (at : ℕ) → at < length text → get_or text at 0 < 128
    → CharAt (place text at) (get_or text at 0) (place text (at + 1))
ascii_here text at within ascii =
    let width : len_utf8 (get_or text at 0) ≡ 1 = len_utf8_ascii _ ascii in
    let here : drop at text ≡ encode_utf8 (get_or text at 0) ++ drop (at + 1) text =
    rw (encode_ascii (get_or text at 0) ascii) (drop_more text at 0 within) in
    subst (λ n. CharAt (place text at) (get_or text at 0) (place text (at + n))) width (char_here text (drop (at + 1) text) at _ here)

-- at most one character is at a place, with one place after it
pub same_char : {u v w : Place} {c d : ℕ} → CharAt u c v → CharAt u d w → (c ≡ d) × (v ≡ w)
same_char {u} {v} {w} {c} {d} first second =
    let same : c ≡ d = (encode_same c d _ _ (sym first.here ∙ second.here)).0 in
    (same, same_place (first.same ∙ sym second.same) (first.next ∙ ap (λ x. u.at + len_utf8 x) same ∙ sym second.next))

-- a text has at least the bytes of a character from the place of this character on
pub char_left : {u v : Place} {c : ℕ} → CharAt u c v → u.at + len_utf8 c ≤ length u.text
char_left {u} {v} {c} char =
    let sizes : length u.text - u.at ≡ len_utf8 c + (length u.text - v.at) =
    sym (length-drop u.at u.text) ∙ ap length char.here ∙ length-append (encode_utf8 c) _
    ∙ ap (λ n. n + length (drop v.at u.text)) (length-encode c)
    ∙ ap (λ n. len_utf8 c + n) (length-drop v.at u.text) in
    let width : 1 ≤ len_utf8 c = (len_utf8_bounds c).0 in
    let next : v.at ≡ u.at + len_utf8 c = char.next in
    omega arith

-- no character is at the end of a text
pub no_char_at_end : {u v : Place} {c : ℕ} → AtEnd u → CharAt u c v → ⊥
no_char_at_end {u} {v} {c} end char =
    let left : u.at + len_utf8 c ≤ length u.text = char_left char in
    let width : 1 ≤ len_utf8 c = (len_utf8_bounds c).0 in
    omega arith

-- in UTF-8, the place after a character is a character boundary if the place of the character is one
pub boundary_following : {u v : Place} {c : ℕ} → IsUtf8 u.text → IsCharBoundary u.text u.at → CharAt u c v → IsCharBoundary u.text v.at
boundary_following {u} {v} {c} utf8 boundary char =
    rw char.next (IsCharBoundary-past_char u.text (drop v.at u.text) u.at c boundary.0 (IsUtf8-drop u.text u.at utf8 boundary) char.here)

-- if a character is at a place, no other character is
pub no_other_char : {u v : Place} {c : ℕ} (d : ℕ) → CharAt u c v → (c ≡ d → ⊥) → (w : Place) → CharAt u d w → ⊥
no_other_char d char differs w other = differs (same_char char other).0

-- the place after a character is in the same text, at the offset after its bytes
pub place_after : {u v : Place} {c : ℕ} → CharAt u c v → v ≡ place u.text (u.at + len_utf8 c)
place_after {u} {v} {c} char = same_place {u = v} {v = place u.text (u.at + len_utf8 c)} char.same char.next

-- two consecutive runs are a run
pub run_append : {test : ℕ → Bool} {u v w : Place} → Run test u v → Run test v w → Run test u w
run_append stop more = more
run_append (step char passes rest) more = step char passes (run_append rest more)

-- a run of one character
pub run_one : {test : ℕ → Bool} {u v : Place} {c : ℕ} → CharAt u c v → test c ≡ true → Run test u v
run_one char passes = step char passes stop

-- no character is at the end of a text, so any test stops there
pub stops_at_end : (test : ℕ → Bool) {u : Place} → AtEnd u → Stops test u
stops_at_end test end c v char = absurd (no_char_at_end end char)

-- a test stops at a character that fails it
pub stops_at : (test : ℕ → Bool) {u v : Place} {c : ℕ} → CharAt u c v → test c ≡ false → Stops test u
stops_at test {u} {v} {c} char fails d w other = subst (λ x. test x ≡ false) (same_char char other).0 fails

-- a space with a character after it that isn't white space is the longest run of white space
pub one_white : {u v w : Place} {d : ℕ} → CharAt u 32 v → CharAt v d w → is_whitespace d ≡ false → Longest is_whitespace u v
one_white space char dark = record { run = step space refl stop; stops = stops_at is_whitespace char dark }

-- in UTF-8, the offset after a character is a character boundary if the offset of the character is one
pub boundary_after : (text : List ℕ) (at : ℕ) {u v : Place} {c : ℕ} → place text at ≡ u → IsUtf8 text
    → IsCharBoundary text at → CharAt u c v → IsCharBoundary text (at + len_utf8 c)
boundary_after text at {u} {v} {c} here utf8 boundary char =
    let at_place : CharAt (place text at) c v = subst (λ p. CharAt p c v) (sym here) char in
    IsCharBoundary-past_char text (drop v.at text) at c boundary.0 (IsUtf8-drop text at utf8 boundary) at_place.here

-- a run and one more character that passes the test are a run
pub run_push : {test : ℕ → Bool} {u v w : Place} {c : ℕ} → Run test u v → CharAt v c w → test c ≡ true → Run test u w
run_push run char passes = run_append run (run_one char passes)

-- ---- a property of each character between two places

-- `AllBetween` still holds after one more ASCII character for which `Holds` is true
pub all_push_ascii : {Holds : ℕ → Type 0} {u : Place} (text : List ℕ) (at : ℕ) → AllBetween Holds u (place text at)
    → at < length text → get_or text at 0 < 128 → Holds (get_or text at 0) → AllBetween Holds u (place text (at + 1))
all_push_ascii text at all within ascii holds = each.step all (ascii_here text at within ascii) holds

-- `AllBetween` still holds after one more character for which `Holds` is true
pub all_push_char : {Holds : ℕ → Type 0} {u v : Place} {c : ℕ} (text : List ℕ) (at : ℕ)
    → AllBetween Holds u (place text at) → CharAt (place text at) c v → Holds c
    → AllBetween Holds u (place text (at + len_utf8 c))
all_push_char {Holds} {u} text at all char holds = subst (λ p. AllBetween Holds u p) (place_after char) (each.step all char holds)

-- if `Holds` implies `Follows`, `AllBetween Holds` implies `AllBetween Follows`
pub all_map : {Holds Follows : ℕ → Type 0} {u v : Place} → ((c : ℕ) → Holds c → Follows c) → AllBetween Holds u v → AllBetween Follows u v
all_map follows each.stop = each.stop
all_map follows (each.step all char holds) = each.step (all_map follows all) char (follows _ holds)

-- if `Holds` implies `Follows`, `EndsOr Holds` implies `EndsOr Follows`
pub end_map : {Holds Follows : ℕ → Type 0} {u : Place} → ((c : ℕ) → Holds c → Follows c) → EndsOr Holds u → EndsOr Follows u
end_map follows (inl end) = inl end
end_map follows (inr here) = inr (here.0, here.1, here.2, follows _ here.3)

-- the two places are in one text
pub all_same : {Holds : ℕ → Type 0} {u v : Place} → AllBetween Holds u v → v.text ≡ u.text
all_same each.stop = refl
all_same (each.step all char holds) = char.same ∙ all_same all

-- the second place isn't before the first
pub all_forward : {Holds : ℕ → Type 0} {u v : Place} → AllBetween Holds u v → u.at ≤ v.at
all_forward {u = u} each.stop = omega arith
all_forward {Holds} {u} {v = w} (each.step {v = v} {c = c} all char holds) =
    let before : u.at ≤ v.at = all_forward all in
    let next : w.at ≡ v.at + len_utf8 c = char.next in
    omega arith

-- the characters are a run if each character with the property passes the test
pub run_of_all : {Holds : ℕ → Type 0} {test : ℕ → Bool} {u v : Place} → ((c : ℕ) → Holds c → test c ≡ true)
    → AllBetween Holds u v → Run test u v
run_of_all passes each.stop = stop
run_of_all passes (each.step all char holds) = run_push (run_of_all passes all) char (passes _ holds)

-- a test stops at the end of the text, or at a character with a property, if each such character fails the test
pub stops_of_end : {Holds : ℕ → Type 0} (test : ℕ → Bool) {u : Place} → ((c : ℕ) → Holds c → test c ≡ false) → EndsOr Holds u → Stops test u
stops_of_end test fails (inl end) = stops_at_end test end
stops_of_end test fails (inr here) = stops_at test here.2 (fails _ here.3)

-- comparing the character at a place with `d` decides whether `d` is there
pub stands_cases : {u v : Place} (c d : ℕ) → CharAt u c v
    → MatchBool (nat_eq c d) ((w : Place) × CharAt u d w) ((w : Place) → CharAt u d w → ⊥)
stands_cases {u} {v} c d char =
    elim (cases_eq c d) [
      | inl same ↦ rw (eq-eqb c d same) (v, rw (← same) char)
      | inr differs ↦ rw (ne_eqb c d differs) (no_other_char d char differs)
    ]

-- the first character of the text from a place, if there is one, is the character at this place
pub char_at_prefix : (B : Type 0) (text : List ℕ) (at : ℕ) → at ≤ length text
    → (found : Option ℕ) (now following : List ℕ) → now ≡ drop at text
    → MatchOption found ((length now ≡ 0) × B) (λ c. now ≡ encode_utf8 c ++ following)
    → MatchOption found (AtEnd (place text at)) (λ c. (v : Place) × CharAt (place text at) c v)
char_at_prefix B text at within None now following rest none =
    let left : length text - at ≡ 0 = sym (length-drop at text) ∙ ap length (sym rest) ∙ none.0 in
    omega arith
char_at_prefix B text at within (Some c) now following rest some = (_, char_here text following at c (sym rest ∙ some))

-- the character that was taken from a place is the one that was there
pub char_taken : {u v w : Place} {c : ℕ} (taken : Option ℕ) → CharAt u c w
    → MatchOption taken (AtEnd u × (v ≡ u)) (λ d. CharAt u d v) → CharAt u c v
char_taken None char ended = absurd (no_char_at_end ended.0 char)
char_taken {u} {v} (Some d) char taken = subst (λ x. CharAt u x v) (same_char taken char).0 taken

-- a test doesn't both pass and fail
pub test_clash : (b : Bool) → b ≡ true → b ≡ false → ⊥
test_clash b passes fails = cc

-- two runs from one place that both stop where the test fails end at the same place
pub runs_same : {test : ℕ → Bool} {u v w : Place} → Run test u v → Stops test v → Run test u w → Stops test w → v ≡ w
runs_same stop ends stop ends' = refl
runs_same stop ends (step char passes rest) ends' = absurd (test_clash _ passes (ends _ _ char))
runs_same (step char passes rest) ends stop ends' = absurd (test_clash _ passes (ends' _ _ char))
runs_same {test} {u} {v} {w} (step char passes rest) ends (step char' passes' rest') ends' =
    runs_same rest ends (subst (λ p. Run test p w) (sym (same_char char char').1) rest') ends'

-- if a run ends where the test stops, the rest of it after its first character is a run
pub run_rest : {test : ℕ → Bool} {u v w : Place} {c : ℕ} → Run test u w → Stops test w → CharAt u c v → test c ≡ true → Run test v w
run_rest stop ends char passes = absurd (test_clash _ passes (ends _ _ char))
run_rest {test} {u} {v} {w} (step char' passes' rest) ends char passes = subst (λ p. Run test p w) (same_char char' char).1 rest

-- `v` is a place in the text of `u`, at the same offset or a later one
pub record Ahead (u v : Place) : Type 0 where
  pub text : v.text ≡ u.text
  pub at : u.at ≤ v.at

pub ahead_here : (u : Place) → Ahead u u
ahead_here u = record { text = refl; at = omega arith }

pub ahead_then : {u v w : Place} → Ahead u v → Ahead v w → Ahead u w
ahead_then first second = record { text = second.text ∙ first.text; at = omega (arith, first.at, second.at) }

pub ahead_char : {u v : Place} {c : ℕ} → CharAt u c v → Ahead u v
ahead_char {u} {v} {c} char = record { text = char.same; at = omega (arith, char.next) }

pub ahead_run : {test : ℕ → Bool} {u v : Place} → Run test u v → Ahead u v
ahead_run stop = ahead_here _
ahead_run (step char passes rest) = ahead_then (ahead_char char) (ahead_run rest)

-- a character boundary of the text of a place is one of the text of a place ahead
pub boundary_ahead : {u v : Place} (at : ℕ) → Ahead u v → IsCharBoundary u.text at → IsCharBoundary v.text at
boundary_ahead {u} {v} at ahead boundary = subst (λ t. IsCharBoundary t at) (sym ahead.text) boundary

-- two longest runs from one place end at the same place
pub longest_same : {test : ℕ → Bool} {u v w : Place} → Longest test u v → Longest test u w → v ≡ w
longest_same first second = runs_same first.run first.stops second.run second.stops

-- a longest run without its first character is a longest run
pub longest_rest : {test : ℕ → Bool} {u v w : Place} {c : ℕ} → Longest test u w → CharAt u c v → test c ≡ true → Longest test v w
longest_rest longest char passes = record { run = run_rest longest.run longest.stops char passes; stops = longest.stops }

-- two different characters aren't at the same place
pub char_clash : {u v w : Place} {c d : ℕ} → CharAt u c v → CharAt u d w → nat_eq c d ≡ false → ⊥
char_clash {u} {v} {w} {c} {d} first second differ = eqb-false c d differ (same_char first second).0

-- a character that passes a test and one that fails it aren't at the same place
pub pass_clash : (test : ℕ → Bool) {u v w : Place} {c d : ℕ} → CharAt u c v → test c ≡ true → CharAt u d w → test d ≡ false → ⊥
pass_clash test {u} {v} {w} {c} {d} first passes second fails =
    test_clash (test d) (subst (λ x. test x ≡ true) (same_char first second).0 passes) fails

-- if `k` isn't at a place, any character there is another one
pub stops_without : (k : ℕ) {u : Place} → ((v : Place) → CharAt u k v → ⊥) → Stops (λ c. c == k) u
stops_without k {u} absent c v char = ne_eqb c k (λ same. absent v (subst (λ x. CharAt u x v) same char))

-- fewer bytes are left at a place after a character than at a place before it
pub left_smaller : {u v w x : Place} {c : ℕ} → Ahead u v → CharAt v c w → Ahead w x → length x.text - x.at < length u.text - u.at
left_smaller {u} {v} {w} {x} {c} before char following =
    let left : v.at + len_utf8 c ≤ length v.text = char_left char in
    let width : 1 ≤ len_utf8 c = (len_utf8_bounds c).0 in
    let text : length v.text ≡ length u.text = ap length before.text in
    let text' : length w.text ≡ length v.text = ap length char.same in
    let text'' : length x.text ≡ length w.text = ap length following.text in
    let start : u.at ≤ v.at = before.at in
    let next : w.at ≡ v.at + len_utf8 c = char.next in
    let end : w.at ≤ x.at = following.at in
    omega arith

-- the place after taking a character, if there is one, is ahead
pub ahead_taken : {u v : Place} (taken : Option ℕ) → MatchOption taken (AtEnd u × (v ≡ u)) (λ c. CharAt u c v) → Ahead u v
ahead_taken {u} {v} None ended = subst (λ p. Ahead u p) (sym ended.1) (ahead_here u)
ahead_taken (Some c) char = ahead_char char

pub ahead_same : {u v : Place} → v ≡ u → Ahead u v
ahead_same {u} {v} same = subst (λ p. Ahead u p) (sym same) (ahead_here u)

-- the place after a character lies in its text
pub char_within : {u v : Place} {c : ℕ} → CharAt u c v → v.at ≤ length v.text
char_within {u} {v} {c} char =
    let size : length v.text ≡ length u.text = ap length char.same in
    omega (arith, char_left char, char.next)

-- the place of a later character lies in the text
pub before_char : {u v w : Place} {c : ℕ} → Ahead u v → CharAt v c w → v.at ≤ length u.text
before_char {u} {v} ahead char =
    let left = char_left char in
    let same : length v.text ≡ length u.text = ap length ahead.text in
    omega (arith, left, same)

-- in a text of fewer than 2^63 bytes, the byte offset after a later character is below 2^64
pub after_char_small : {u v w : Place} {c : ℕ} → length u.text < 2 ^ 63 → Ahead u v → CharAt v c w → w.at < 2 ^ 64
after_char_small {u} {v} {w} {c} fits ahead char = omega (arith, char_left char, ap length ahead.text, char.next)
