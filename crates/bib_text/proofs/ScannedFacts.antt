-- The text that a scanner moves past is the start of the characters ahead.
use Rattle.std.proofs.Common.{◌≡◌, ℕ, Bool, true, false, List, [], ◌∷◌, ◌++◌, drop, refl, sym, ap, ◌∙◌, arith, zero, suc, cond}
use Rattle.std.specs.Prelude.{encode_utf8_all}
use Rattle.std.specs.List.{list_all}
use Rattle.std.specs.Str.{chars, IsUtf8, IsAscii, IsCharBoundary, trim_start, skip_leading_whitespace}
use Rattle.std.specs.Char.{is_whitespace, is_ascii_digit}
use Rattle.std.proofs.lemmas.Bool.Decides.{nat_tests}
use Rattle.std.proofs.lemmas.Bool.{and_parts, cond-true, cond-false}
use Rattle.std.proofs.lemmas.Str.{encodes-chars, chars_from_encodes, encodes-IsAscii}
use Rattle.bib_text.specs.Places.{Place, place, CharAt, Longest, Stops, AtEnd, between}
use Rattle.bib_text.proofs.PlaceFacts.{char_here}
use Rattle.bib_text.proofs.TextFacts.{ahead, MovesPast, passed_run, passed_between, passed_char, chars_at_end}
use Rattle.bib_text.specs.Runs.{leading_run, rest_after}

-- if all of `run` passes the test and `rest` doesn't begin with a passing character, the leading run of both is `run`
pub split_prefix : (test : ℕ → Bool) (run rest : List ℕ) → list_all test run ≡ true → (leading_run test rest ≡ [])
    → leading_run test (run ++ rest) ≡ run
split_prefix test [] rest all stops = stops
split_prefix test (c ∷ run) rest all stops =
    let parts = and_parts (test c) (list_all test run) all in
    cond-true (test c) (c ∷ leading_run test (run ++ rest)) [] parts.0 ∙ ap (λ xs. c ∷ xs) (split_prefix test run rest parts.1 stops)

-- if all of `run` passes and `rest` doesn't begin with a passing character, `rest` comes after the leading run
pub split_after : (test : ℕ → Bool) (run rest : List ℕ) → list_all test run ≡ true → (rest_after test rest ≡ rest)
    → rest_after test (run ++ rest) ≡ rest
split_after test [] rest all stops = stops
split_after test (c ∷ run) rest all stops =
    let parts = and_parts (test c) (list_all test run) all in
    cond-true (test c) (rest_after test (run ++ rest)) (c ∷ run ++ rest) parts.0 ∙ split_after test run rest parts.1 stops

-- if a test stops at a place in UTF-8 text, the leading run of the characters from there is empty, and all of them come after it
stopped : (test : ℕ → Bool) (v : Place) (cs : List ℕ) → IsUtf8 (ahead v) → cs ≡ chars (ahead v) → Stops test v
    → (leading_run test cs ≡ []) × (rest_after test cs ≡ cs)
stopped test v [] utf8 is stops = (refl, refl)
stopped test v (c ∷ cs) utf8 is stops =
    let spelt : ahead v ≡ encode_utf8_all (c ∷ cs) = sym (encodes-chars (ahead v) utf8) ∙ ap encode_utf8_all (sym is) in
    let no : test c ≡ false = stops c _ (char_here v.text (encode_utf8_all cs) v.at c spelt) in
    (cond-false (test c) (c ∷ leading_run test cs) [] no, cond-false (test c) (rest_after test cs) (c ∷ cs) no)

-- a scanner moved from `u` to `v`, past the longest run of characters that pass the test
pub record EatsRun (test : ℕ → Bool) (u v : Place) : Type 0 where
  pub same : v.text ≡ u.text
  pub run : between u v ≡ encode_utf8_all (leading_run test (chars (ahead u)))
  pub utf8 : IsUtf8 (ahead v)
  pub rest : chars (ahead v) ≡ rest_after test (chars (ahead u))

-- in UTF-8 text, a longest run is the leading run of the characters ahead
pub eaten : (test : ℕ → Bool) {u v : Place} → Longest test u v → IsUtf8 (ahead u) → EatsRun test u v
eaten test {u} {v} longest utf8 =
    let passed = passed_run longest.run utf8 in
    let stops = stopped test v (chars (ahead v)) passed.1.utf8 refl longest.stops in
    record {
      same = passed.1.same;
      run =
          passed_between passed.1
          ∙ ap encode_utf8_all
          (sym
          (ap (leading_run test) passed.1.spelt
          ∙ split_prefix test passed.0 (chars (ahead v)) passed.2 stops.0));
      utf8 = passed.1.utf8;
      rest = sym (ap (rest_after test) passed.1.spelt ∙ split_after test passed.0 (chars (ahead v)) passed.2 stops.1);
    }

-- skipping leading white space leaves the characters after the leading run of white space
pub white : (cs : List ℕ) → skip_leading_whitespace cs ≡ rest_after is_whitespace cs
white [] = refl
white (c ∷ cs) = ap (λ xs. here (is_whitespace c) xs (c ∷ cs)) (white cs)
  where
    here : Bool → List ℕ → List ℕ → List ℕ
    here true xs ys = xs
    here false xs ys = ys

-- if a text trimmed at its start is UTF-8, its characters are those after the leading white space of the text
pub trimmed_chars : (bs trimmed : List ℕ) → IsUtf8 trimmed → trimmed ≡ trim_start bs → chars trimmed ≡ rest_after is_whitespace (chars bs)
unfolding trim_start
trimmed_chars bs trimmed utf8 is = sym (chars_from_encodes (skip_leading_whitespace (chars bs)) trimmed utf8 (sym is)) ∙ white (chars bs)

-- `eaten` from the start of a UTF-8 text
pub eaten_new : (test : ℕ → Bool) (text : List ℕ) {u v : Place} → u ≡ place text 0 → IsUtf8 text → Longest test u v
    → (v.text ≡ text) × (between u v ≡ encode_utf8_all (leading_run test (chars text)))
    × (chars (ahead v) ≡ rest_after test (chars text))
eaten_new test text {u} {v} is utf8 longest =
    let here : ahead u ≡ text = ap ahead is in
    let ate : EatsRun test u v = eaten test longest (rw here utf8) in (
      ate.same ∙ ap (λ p. p.text) is,
      ate.run ∙ ap (λ bs. encode_utf8_all (leading_run test (chars bs))) here,
      ate.rest ∙ ap (λ bs. rest_after test (chars bs)) here,
    )

-- in a UTF-8 text, the characters from the offset after the longest run from the start are those after the leading run
pub eaten_rest : (test : ℕ → Bool) (text : List ℕ) (at : ℕ) {u v : Place} → u ≡ place text 0 → IsUtf8 text
    → Longest test u v → at ≡ v.at → chars (drop at text) ≡ rest_after test (chars text)
eaten_rest test text at {u} {v} is utf8 longest there =
    let ate = eaten_new test text is utf8 longest in
    ap (λ n. chars (drop n text)) there ∙ ap (λ bs. chars (drop v.at bs)) (sym ate.0) ∙ ate.2

-- a character boundary of the text at the end of a run is one of the text at its start
pub boundary_there : {test : ℕ → Bool} (at : ℕ) (text : List ℕ) {u v : Place} → u ≡ place text 0 → IsUtf8 text
    → Longest test u v → IsCharBoundary v.text at → IsCharBoundary text at
boundary_there {test} at text is utf8 longest boundary = rw (sym (eaten_new test text is utf8 longest).0) boundary

-- leading ASCII digits are ASCII
prefix_ascii : (cs : List ℕ) → IsAscii (leading_run is_ascii_digit cs)
prefix_ascii [] = λ k. omega arith
prefix_ascii (c ∷ cs) = here (is_ascii_digit c) c (leading_run is_ascii_digit cs) refl (prefix_ascii cs)
  where
    here : (b : Bool) (c : ℕ) (cs : List ℕ) → is_ascii_digit c ≡ b → IsAscii cs → IsAscii (cond b (c ∷ cs) [])
    here true c cs is more zero = grind (arith, nat_tests)
    here true c cs is more (suc k) = more k
    here false c cs is more k = omega arith

-- each digit is encoded in one byte, which is its code point
digits_encode : (cs : List ℕ) → encode_utf8_all (leading_run is_ascii_digit cs) ≡ leading_run is_ascii_digit cs
digits_encode cs = encodes-IsAscii (leading_run is_ascii_digit cs) (prefix_ascii cs)

-- the bytes of the longest run of digits from the start of a UTF-8 text are its leading run of digits, as a list of characters
pub eaten_digits : (text : List ℕ) {u v : Place} → u ≡ place text 0 → IsUtf8 text → Longest is_ascii_digit u v
    → between u v ≡ leading_run is_ascii_digit (chars text)
eaten_digits text is utf8 longest = (eaten_new is_ascii_digit text is utf8 longest).1 ∙ digits_encode (chars text)

-- the characters of a UTF-8 text are the first one and those from the offset after it
pub eaten_char : (text : List ℕ) (at : ℕ) {u v : Place} {c : ℕ} → u ≡ place text 0 → IsUtf8 text → CharAt u c v
    → at ≡ v.at → chars text ≡ c ∷ chars (drop at text)
eaten_char text at {u} {v} {c} is utf8 char there =
    let here : ahead u ≡ text = ap ahead is in
    let passed : MovesPast u (c ∷ []) v = passed_char char (rw here utf8) in
    let same : v.text ≡ text = char.same ∙ ap (λ p. p.text) is in
    ap chars (sym here) ∙ passed.spelt ∙ ap (λ bs. c ∷ chars (drop v.at bs)) same ∙ ap (λ n. c ∷ chars (drop n text)) (sym there)

-- the place after the first character of a text has the same text, and so the same character boundaries
pub boundary_char : (at : ℕ) (text : List ℕ) {u v : Place} {c : ℕ} → u ≡ place text 0 → CharAt u c v
    → IsCharBoundary v.text at → IsCharBoundary text at
boundary_char at text is char boundary = rw (sym (char.same ∙ ap (λ p. p.text) is)) boundary

-- a text has no characters if its start is its end
pub none_eaten : (text : List ℕ) {u : Place} → u ≡ place text 0 → AtEnd u → chars text ≡ []
none_eaten text {u} is end = ap chars (sym (ap ahead is)) ∙ chars_at_end u end
