-- Facts about the characters up to an ASCII byte.
use Rattle.std.proofs.Common.{◌≡◌, ℕ, ◌+◌, ◌<◌, ◌≤◌, Bool, true, false, List, [], ◌∷◌, ◌++◌, length, take, drop, get_or, refl, sym, ap, ◌∙◌, subst, arith, length-append, length-drop, append_assoc, inl, inr, Option, None, Some}
use Rattle.std.specs.Prelude.{encode_utf8, encode_utf8_all, not, ◌==◌, ◌||◌, ◌&&◌}
use Rattle.std.specs.Char.{len_utf8, is_whitespace}
use Rattle.std.specs.Option.{unwrap_or}
use Rattle.std.specs.Str.{IsUtf8, IsCharBoundary, chars}
use Rattle.std.proofs.lemmas.Bool.{eqb-true, or_cases, cases_lt, false_from_ne_true}
use Rattle.std.proofs.lemmas.Bool.Decides.{nat_tests}
use Rattle.std.proofs.lemmas.List.{get_or-append-add, get_or-take, get_or-drop, take-append-drop, length-take-le}
use Rattle.std.proofs.lemmas.Str.{length-encode, len_utf8_bounds, byte_from_char, drop_past_char, encodes-chars, IsUtf8-take, IsUtf8-drop, IsCharBoundary-end, IsCharBoundary-before_ascii}
use Rattle.memchr.specs.Find.{Nowhere, IsFirstByte, is_byte, is_byte2, is_byte3}
use Rattle.bib_text.specs.Places.{Place, place, CharAt, Run, Longest, AtEnd, EndsOr}
use Rattle.bib_text.specs.Places.Run.{stop, step}
use Rattle.bib_text.proofs.PlaceFacts.{char_here, ascii_here, stops_at, stops_at_end}

-- if only ASCII characters end a run, characters without a byte that ends a run are a run
run_of_chars : (ends passes : ℕ → Bool) → ((c : ℕ) → passes c ≡ not (ends c)) → ((c : ℕ) → ends c ≡ true → c < 128)
    → (text : List ℕ) (at : ℕ) (cs rest : List ℕ) → drop at text ≡ encode_utf8_all cs ++ rest
    → ((k : ℕ) → k < length (encode_utf8_all cs) → ends (get_or (encode_utf8_all cs) k 0) ≡ true → ⊥)
    → Run passes (place text at) (place text (at + length (encode_utf8_all cs)))
run_of_chars ends passes split ascii text at [] rest here none =
    let same : at ≡ at + 0 = omega arith in
    subst (λ n. Run passes (place text at) (place text n)) same stop
run_of_chars ends passes split ascii text at (c ∷ cs) rest here none =
    let begins : drop at text ≡ encode_utf8 c ++ (encode_utf8_all cs ++ rest) =
    here ∙ append_assoc (encode_utf8 c) (encode_utf8_all cs) rest in
    let size : length (encode_utf8 c) ≡ len_utf8 c = length-encode c in
    let sizes : length (encode_utf8_all (c ∷ cs)) ≡ length (encode_utf8 c) + length (encode_utf8_all cs) =
    length-append (encode_utf8 c) (encode_utf8_all cs) in
    let width : 1 ≤ len_utf8 c = (len_utf8_bounds c).0 in
    let fails : ends c ≡ true → ⊥ =
    λ is.
    none 0 (omega arith)
    (subst (λ x. ends x ≡ true)
    (sym (byte_from_char (encode_utf8_all (c ∷ cs)) (encode_utf8_all cs) c refl (ascii c is))) is) in
    let more =
    run_of_chars ends passes split ascii text (at + len_utf8 c) cs rest
    (drop_past_char text (encode_utf8_all cs ++ rest) at c begins)
    (λ k within is.
    none (length (encode_utf8 c) + k) (omega arith)
    (subst (λ x. ends x ≡ true) (sym (get_or-append-add (encode_utf8 c) (encode_utf8_all cs) k 0)) is)) in
    let next : at + len_utf8 c + length (encode_utf8_all cs) ≡ at + length (encode_utf8_all (c ∷ cs)) = omega arith in
    step (char_here text (encode_utf8_all cs ++ rest) at c begins) (split c ∙ ap not (false_from_ne_true (ends c) fails))
    (subst (λ n. Run passes (place text (at + len_utf8 c)) (place text n)) next more)

-- the longest run from `u` ends at `v`, a character boundary, at the end of the text or at a failing character
pub record Until (passes : ℕ → Bool) (u v : Place) : Type 0 where
  pub longest : Longest passes u v
  pub stopped : EndsOr (λ c. passes c ≡ false) v
  pub boundary : IsCharBoundary u.text v.at

-- Suppose that only ASCII characters end a run. Then `n` bytes of UTF-8 text from the offset `at`, up to a character boundary, are a
-- run if none of them ends one.
run_of_bytes : (ends passes : ℕ → Bool) → ((c : ℕ) → passes c ≡ not (ends c)) → ((c : ℕ) → ends c ≡ true → c < 128)
    → (text : List ℕ) (at n : ℕ) → IsUtf8 (drop at text) → IsCharBoundary (drop at text) n
    → ((k : ℕ) → k < n → ends (get_or (drop at text) k 0) ≡ true → ⊥)
    → Run passes (place text at) (place text (at + n))
run_of_bytes ends passes split ascii text at n utf8 boundary none =
    let taken : encode_utf8_all (chars (take n (drop at text))) ≡ take n (drop at text) =
    encodes-chars (take n (drop at text)) (IsUtf8-take (drop at text) n utf8 boundary) in
    let cut : drop at text ≡ encode_utf8_all (chars (take n (drop at text))) ++ drop n (drop at text) =
    sym (ap (λ bs. bs ++ drop n (drop at text)) taken ∙ take-append-drop n (drop at text)) in
    let size : length (encode_utf8_all (chars (take n (drop at text)))) ≡ n =
    ap length taken ∙ length-take-le n (drop at text) boundary.0 in
    let run = run_of_chars ends passes split ascii text at (chars (take n (drop at text))) (drop n (drop at text)) cut (λ k within is.
    let low : k < n = omega arith in
    none k low (subst (λ x. ends x ≡ true) (ap (λ bs. get_or bs k 0) taken ∙ get_or-take n (drop at text) k 0 low) is)) in
    subst (λ m. Run passes (place text at) (place text (at + m))) size run

-- Suppose that only ASCII characters end a run. Then the longest run from a place in UTF-8 text goes up to the first byte that ends it,
-- or to the end of the text.
pub until_found : (ends passes : ℕ → Bool) → ((c : ℕ) → passes c ≡ not (ends c)) → ((c : ℕ) → ends c ≡ true → c < 128)
    → (text : List ℕ) (at : ℕ) → IsUtf8 text → IsCharBoundary text at → (found : Option ℕ) (n : ℕ)
    → IsFirstByte ends (drop at text) found → n ≡ unwrap_or found (length (drop at text))
    → Until passes (place text at) (place text (at + n))
until_found ends passes split ascii text at utf8 boundary None n nowhere is =
    let hay : IsUtf8 (drop at text) = IsUtf8-drop text at utf8 boundary in
    let within : at ≤ length text = boundary.0 in
    let end : AtEnd (place text (at + n)) = omega (arith, is, length-drop at text) in
    record {
      longest = record {
        run =
            run_of_bytes ends passes split ascii text at n hay (rw is (IsCharBoundary-end (drop at text)))
            (λ k low. nowhere k (omega arith) (omega arith));
        stops = stops_at_end passes end;
      };
      stopped = inl end;
      boundary = subst (IsCharBoundary text) (sym end) (IsCharBoundary-end text);
    }
until_found ends passes split ascii text at utf8 boundary (Some k) n first is =
    let hay : IsUtf8 (drop at text) = IsUtf8-drop text at utf8 boundary in
    let within : at ≤ length text = boundary.0 in
    let high : k < length (drop at text) = first.0.high in
    let low : get_or (drop at text) k 0 < 128 = ascii _ first.1 in
    let same : get_or (drop at text) k 0 ≡ get_or text (at + k) 0 = get_or-drop at text k 0 in
    let here : CharAt (place text (at + k)) (get_or text (at + k) 0) (place text (at + k + 1)) =
    ascii_here text (at + k) (omega (arith, length-drop at text)) (omega arith) in
    let fails : passes (get_or text (at + k) 0) ≡ false = split _ ∙ ap not (subst (λ x. ends x ≡ true) same first.1) in
    rw is record {
      longest = record {
        run =
            run_of_bytes ends passes split ascii text at k hay (IsCharBoundary-before_ascii (drop at text) k high low)
            (λ j lower. first.0.before j (omega arith) lower);
        stops = stops_at passes here fails;
      };
      stopped = inr (_, _, here, fails);
      boundary = IsCharBoundary-before_ascii text (at + k) (omega (arith, length-drop at text)) (omega arith);
    }

-- a test for one, two or three ASCII characters passes only ASCII characters
one_ascii : (a : ℕ) → a < 128 → (c : ℕ) → c == a ≡ true → c < 128
one_ascii a low c is = omega (arith, eqb-true c a is)

two_ascii : (a b : ℕ) → a < 128 → b < 128 → (c : ℕ) → c == a || c == b ≡ true → c < 128
two_ascii a b low_a low_b c is = elim (or_cases (c == a) (c == b) is) [
  | inl first ↦ one_ascii a low_a c first
  | inr second ↦ one_ascii b low_b c second
]

three_ascii : (a b d : ℕ) → a < 128 → b < 128 → d < 128 → (c : ℕ) → c == a || c == b || c == d ≡ true → c < 128
three_ascii a b d low_a low_b low_d c is = elim (or_cases (c == a || c == b) (c == d) is) [
  | inl first ↦ two_ascii a b low_a low_b c first
  | inr third ↦ one_ascii d low_d c third
]

neither : (p q : Bool) → (not p && not q) ≡ not (p || q)
neither true q = refl
neither false q = refl

none_of : (p q r : Bool) → (not p && not q && not r) ≡ not (p || q || r)
none_of true q r = refl
none_of false true r = refl
none_of false false r = refl

-- in UTF-8 text, the longest run from `at` without the ASCII character `a` ends before the first `a`, or at the end of the text
pub until_byte : (a : ℕ) → a < 128 → (text : List ℕ) (at : ℕ) → IsUtf8 text → IsCharBoundary text at
    → (found : Option ℕ) (n : ℕ) → IsFirstByte (is_byte a) (drop at text) found
    → n ≡ unwrap_or found (length (drop at text))
    → Until (λ c. not (c == a)) (place text at) (place text (at + n))
until_byte a low = until_found (is_byte a) (λ c. not (c == a)) (λ c. refl) (one_ascii a low)

-- in UTF-8 text, the longest run from `at` without the ASCII characters `a` and `b` ends before the first of them, or at the end
pub until_either : (a b : ℕ) → (a < 128) × (b < 128) → (text : List ℕ) (at : ℕ) → IsUtf8 text → IsCharBoundary text at
    → (found : Option ℕ) (n : ℕ) → IsFirstByte (is_byte2 a b) (drop at text) found
    → n ≡ unwrap_or found (length (drop at text))
    → Until (λ c. not (c == a) && not (c == b)) (place text at) (place text (at + n))
until_either a b low =
    until_found (is_byte2 a b) (λ c. not (c == a) && not (c == b)) (λ c. neither (c == a) (c == b))
    (two_ascii a b low.0 low.1)

-- in UTF-8 text, the longest run from `at` without the ASCII characters `a`, `b` and `d` ends before the first of them, or at the end
pub until_any : (a b d : ℕ) → (a < 128) × (b < 128) × (d < 128) → (text : List ℕ) (at : ℕ) → IsUtf8 text
    → IsCharBoundary text at → (found : Option ℕ) (n : ℕ) → IsFirstByte (is_byte3 a b d) (drop at text) found
    → n ≡ unwrap_or found (length (drop at text))
    → Until (λ c. not (c == a) && not (c == b) && not (c == d)) (place text at) (place text (at + n))
until_any a b d low =
    until_found (is_byte3 a b d) (λ c. not (c == a) && not (c == b) && not (c == d))
    (λ c. none_of (c == a) (c == b) (c == d)) (three_ascii a b d low.0 low.1 low.2)

-- if the property holds nowhere before `n` and not at `n`, it holds nowhere before `n + 1`
pub nowhere_more : (P : ℕ → Type 0) (n : ℕ) → Nowhere P 0 n → (P n → ⊥) → Nowhere P 0 (n + 1)
nowhere_more P n none here k low high holds = elim (cases_lt k n) [
  | inl before ↦ none k low before holds
  | inr from ↦ let same : k ≡ n = omega arith in here (subst P same holds)
]

-- two tests with the same results have the same first passing byte
pub first_same : (p q : ℕ → Bool) → ((x : ℕ) → p x ≡ q x) → (hay : List ℕ) (n : ℕ) → IsFirstByte p hay (Some n) → IsFirstByte q hay (Some n)
first_same p q same hay n first = (
  record {
    low = first.0.low;
    high = first.0.high;
    before = λ k low high holds. first.0.before k low high (same _ ∙ holds);
  },
  sym (same _) ∙ first.1,
)

or_same : (p q : Bool) → (p || q || q) ≡ (p || q)
or_same true q = refl
or_same false true = refl
or_same false false = refl

-- the first byte that is `a`, `b` or `b` is the first that is `a` or `b`
pub first_of_two : (a b : ℕ) (hay : List ℕ) (n : ℕ) → IsFirstByte (is_byte3 a b b) hay (Some n) → IsFirstByte (is_byte2 a b) hay (Some n)
first_of_two a b = first_same (is_byte3 a b b) (is_byte2 a b) (λ x. or_same (x == a) (x == b))

-- a visible ASCII character isn't white space
pub not_white : (c : ℕ) → 33 ≤ c → c < 127 → is_whitespace c ≡ false
not_white c low high = grind (arith, nat_tests)
