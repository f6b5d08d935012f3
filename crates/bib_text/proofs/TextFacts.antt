-- Facts about the characters of a text, and about those that a cursor moves past.
use Rattle.std.proofs.Common.{◌≡◌, ℕ, ◌+◌, ◌-◌, ◌<◌, ◌≤◌, Bool, true, cond, List, [], ◌∷◌, ◌++◌, length, take, drop, refl, sym, ap, ◌∙◌, arith, length-append, append_assoc, Result, Ok, is_ok}
use Rattle.std.specs.Prelude.{encode_utf8, encode_utf8_all}
use Rattle.std.specs.Char.{len_utf8}
use Rattle.std.specs.List.{list_all, flat_map}
use Rattle.std.specs.Str.{IsUtf8, chars}
use Rattle.std.proofs.lemmas.Str.{chars_past_char, IsUtf8-past_char, length-encode, len_utf8_bounds, encodes-append, chars-nil}
use Rattle.std.proofs.lemmas.List.{take_at, append-nil, drop_all}
use Rattle.std.proofs.lemmas.Bool.{and_from, and_parts}
use Rattle.std.proofs.lemmas.Slice.{pushed}
use Rattle.bib_text.specs.Places.{Place, CharAt, Run, AtEnd, between}
use Rattle.bib_text.specs.Places.Run.{stop, step}
use Rattle.bib_text.proofs.PlaceFacts.{char_left}

-- the bytes from a place to the end of its text
abbrev pub ahead : Place → List ℕ
ahead u = drop u.at u.text

-- a cursor moved from `u` to `v` past the characters `cs`, and the rest of the text is UTF-8
pub record MovesPast (u : Place) (cs : List ℕ) (v : Place) : Type 0 where
  pub same : v.text ≡ u.text
  pub here : ahead u ≡ encode_utf8_all cs ++ ahead v
  pub next : v.at ≡ u.at + length (encode_utf8_all cs)
  pub spelt : chars (ahead u) ≡ cs ++ chars (ahead v)
  pub utf8 : IsUtf8 (ahead v)

-- in UTF-8 text, `MovesPast` holds from a place to itself, for no characters
pub passed_none : (u : Place) → IsUtf8 (ahead u) → MovesPast u [] u
passed_none u utf8 = record { same = refl; here = refl; next = omega arith; spelt = refl; utf8 = utf8 }

-- in UTF-8 text, `MovesPast` holds for one character
pub passed_char : {u v : Place} {c : ℕ} → CharAt u c v → IsUtf8 (ahead u) → MovesPast u (c ∷ []) v
passed_char {u} {v} {c} char utf8 =
    let here : ahead u ≡ encode_utf8 c ++ ahead v = char.here ∙ ap (λ t. encode_utf8 c ++ drop v.at t) (sym char.same) in
    record {
      same = char.same;
      here = here ∙ ap (λ bs. bs ++ ahead v) (sym (append-nil (encode_utf8 c)));
      next = char.next ∙ ap (λ n. u.at + n) (sym (ap length (append-nil (encode_utf8 c)) ∙ length-encode c));
      spelt = chars_past_char (ahead u) (ahead v) c utf8 here;
      utf8 = IsUtf8-past_char (ahead u) (ahead v) c utf8 here;
    }

-- the bytes of characters and of those after them are the bytes of all of them
pub joined_bytes : (cs ds before middle after : List ℕ) → before ≡ encode_utf8_all cs ++ middle
    → middle ≡ encode_utf8_all ds ++ after → before ≡ encode_utf8_all (cs ++ ds) ++ after
joined_bytes cs ds before middle after first second =
    first ∙ ap (λ bs. encode_utf8_all cs ++ bs) second ∙ sym (append_assoc (encode_utf8_all cs) _ _)
    ∙ ap (λ bs. bs ++ after) (sym (encodes-append cs ds))

-- the offset after characters and after more of them is the offset after all of them
pub joined_offset : (cs ds : List ℕ) (from middle to : ℕ) → middle ≡ from + length (encode_utf8_all cs)
    → to ≡ middle + length (encode_utf8_all ds) → to ≡ from + length (encode_utf8_all (cs ++ ds))
joined_offset cs ds from middle to first second =
    let sizes : length (encode_utf8_all (cs ++ ds)) ≡ length (encode_utf8_all cs) + length (encode_utf8_all ds) =
    ap length (encodes-append cs ds) ∙ length-append (encode_utf8_all cs) _ in
    omega (arith, first, second, sizes)

-- `MovesPast` for characters, and then for more of them, is `MovesPast` for all of them
pub passed_append : {u v w : Place} {cs ds : List ℕ} → MovesPast u cs v → MovesPast v ds w → MovesPast u (cs ++ ds) w
passed_append {u} {v} {w} {cs} {ds} first second =
    record {
      same = second.same ∙ first.same;
      here = joined_bytes cs ds _ _ _ first.here second.here;
      next = joined_offset cs ds _ _ _ first.next second.next;
      spelt = first.spelt ∙ ap (λ bs. cs ++ bs) second.spelt ∙ sym (append_assoc cs ds _);
      utf8 = second.utf8;
    }

-- the text between the two places is the passed characters in UTF-8
pub passed_between : {u v : Place} {cs : List ℕ} → MovesPast u cs v → between u v ≡ encode_utf8_all cs
passed_between {u} {v} {cs} passed =
    let next : v.at ≡ u.at + length (encode_utf8_all cs) = passed.next in
    let size : length (encode_utf8_all cs) ≡ v.at - u.at = omega arith in
    ap (take (v.at - u.at)) passed.here ∙ take_at (encode_utf8_all cs) (ahead v) (v.at - u.at) size

-- in UTF-8 text, a run moves a cursor past characters that all pass the test
pub passed_run : {test : ℕ → Bool} {u v : Place} → Run test u v → IsUtf8 (ahead u)
    → (cs : List ℕ) × MovesPast u cs v × (list_all test cs ≡ true)
passed_run {test} {u} stop utf8 = ([], passed_none u utf8, refl)
passed_run (step char passes rest) utf8 =
    let first = passed_char char utf8 in
    let more = passed_run rest first.utf8 in
    (_, passed_append first more.1, and_from _ _ passes more.2)

-- no byte is ahead at the end of a text
pub ahead_at_end : (u : Place) → AtEnd u → ahead u ≡ []
ahead_at_end u end = drop_all u.at u.text (omega (arith, end))

-- if `spelled` maps each character that passes the test to itself, it maps a list of such characters to itself
pub flat_map_same : (test : ℕ → Bool) (spelled : ℕ → List ℕ) → ((c : ℕ) → test c ≡ true → spelled c ≡ c ∷ [])
    → (cs : List ℕ) → list_all test cs ≡ true → flat_map spelled cs ≡ cs
flat_map_same test spelled same [] all = refl
flat_map_same test spelled same (c ∷ cs) all =
    let parts = and_parts (test c) (list_all test cs) all in
    ap (λ xs. xs ++ flat_map spelled cs) (same c parts.0) ∙ ap (λ xs. c ∷ xs) (flat_map_same test spelled same cs parts.1)

-- after one more part was written, the output and the remaining characters still make up the same text
pub written_more : (out more total part all rest : List ℕ) → more ≡ out ++ encode_utf8_all part → all ≡ part ++ rest
    → out ++ encode_utf8_all all ≡ total → more ++ encode_utf8_all rest ≡ total
written_more out more total part all rest written cut before =
    ap (λ bs. bs ++ encode_utf8_all rest) written
    ∙ append_assoc out (encode_utf8_all part) (encode_utf8_all rest)
    ∙ ap (λ bs. out ++ bs) (sym (encodes-append part rest) ∙ ap encode_utf8_all (sym cut))
    ∙ before

-- if no character remains, the output is the whole text
pub written_all : (out total rest : List ℕ) → rest ≡ [] → out ++ encode_utf8_all rest ≡ total → out ≡ total
written_all out total rest none before = sym (append-nil out) ∙ ap (λ cs. out ++ encode_utf8_all cs) (sym none) ∙ before

-- no character is left at the end
pub chars_at_end : (u : Place) → AtEnd u → chars (ahead u) ≡ []
chars_at_end u end = ap chars (ahead_at_end u end) ∙ chars-nil

-- a successful `push` or `push_str` appends these characters in UTF-8
pub pushed_chars : {T E : Type 0} (was now added : List ℕ) (r : Result T E) {x : T} (cs : List ℕ) → r ≡ Ok x
    → now ≡ cond (is_ok r) (was ++ added) was → added ≡ encode_utf8_all cs → now ≡ was ++ encode_utf8_all cs
pushed_chars was now added r cs ok after same = pushed added refl ok after ∙ ap (λ bs. was ++ bs) same

-- a successful `push_str` appends this text
pub pushed_part : {T E : Type 0} (was now added : List ℕ) (r : Result T E) {x : T} (part : List ℕ) → r ≡ Ok x
    → now ≡ cond (is_ok r) (was ++ added) was → added ≡ part → now ≡ was ++ part
pushed_part was now added r part ok after same = pushed added refl ok after ∙ ap (λ bs. was ++ bs) same

-- the bytes of a character are those of the list of only this character
pub encode_one : (c : ℕ) → encode_utf8 c ≡ encode_utf8_all (c ∷ [])
encode_one c = sym (append-nil (encode_utf8 c))

-- a run stays in its text and doesn't go back
pub run_onward : {test : ℕ → Bool} {u v : Place} → Run test u v → (v.text ≡ u.text) × (u.at ≤ v.at)
run_onward stop = (refl, omega arith)
run_onward {u = u} {v} (step {v = w} {c = c} char passes rest) =
    let more = run_onward rest in
    let onward : w.at ≤ v.at = more.1 in
    let next : w.at ≡ u.at + len_utf8 c = char.next in
    (more.0 ∙ char.same, omega arith)

-- fewer bytes are left after a run and a character
pub less_left : {test : ℕ → Bool} {u v w : Place} {c : ℕ} → Run test u v → CharAt v c w → length w.text - w.at < length u.text - u.at
less_left {u = u} {v} {w} {c} run char =
    let onward : u.at ≤ v.at = (run_onward run).1 in
    let texts : length w.text ≡ length u.text = ap length (char.same ∙ (run_onward run).0) in
    let left : v.at + len_utf8 c ≤ length v.text = char_left char in
    let same : length v.text ≡ length u.text = ap length (run_onward run).0 in
    let width : 1 ≤ len_utf8 c = (len_utf8_bounds c).0 in
    let next : w.at ≡ v.at + len_utf8 c = char.next in
    omega arith

-- two parts written one after the other append the characters of both
pub two_parts : (out one two xs ys : List ℕ) → one ≡ out ++ encode_utf8_all xs → two ≡ one ++ encode_utf8_all ys
    → two ≡ out ++ encode_utf8_all (xs ++ ys)
two_parts out one two xs ys first second =
    second ∙ ap (λ bs. bs ++ encode_utf8_all ys) first ∙ append_assoc out (encode_utf8_all xs) (encode_utf8_all ys)
    ∙ ap (λ bs. out ++ bs) (sym (encodes-append xs ys))

-- three texts appended one after another are the encoding of all their characters
pub three_parts : (out one two three xs ys zs : List ℕ) → one ≡ out ++ encode_utf8_all xs
    → two ≡ one ++ encode_utf8_all ys → three ≡ two ++ encode_utf8_all zs
    → three ≡ out ++ encode_utf8_all (xs ++ ys ++ zs)
three_parts out one two three xs ys zs first second third =
    two_parts out two three (xs ++ ys) zs (two_parts out one two xs ys first second) third

-- the characters of a text that begins with `cs` are `cs` and those of the rest, and the rest is UTF-8
pub chars_past : (cs bs rest : List ℕ) → IsUtf8 bs → bs ≡ encode_utf8_all cs ++ rest → (chars bs ≡ cs ++ chars rest) × IsUtf8 rest
chars_past [] bs rest utf8 begins = (ap chars begins, rw begins at utf8)
chars_past (c ∷ cs) bs rest utf8 begins =
    let leading_run : bs ≡ encode_utf8 c ++ (encode_utf8_all cs ++ rest) =
    begins ∙ append_assoc (encode_utf8 c) (encode_utf8_all cs) rest in
    let more = chars_past cs (encode_utf8_all cs ++ rest) rest (IsUtf8-past_char bs (encode_utf8_all cs ++ rest) c utf8 leading_run) refl in
    (chars_past_char bs (encode_utf8_all cs ++ rest) c utf8 leading_run ∙ ap (λ xs. c ∷ xs) more.0, more.1)

-- the characters of the UTF-8 text that `cs` spell are `cs`
pub chars_whole : (cs bs : List ℕ) → IsUtf8 bs → bs ≡ encode_utf8_all cs → chars bs ≡ cs
chars_whole cs bs utf8 spells = (chars_past cs bs [] utf8 (spells ∙ sym (append-nil _))).0 ∙ ap (λ xs. cs ++ xs) chars-nil ∙ append-nil cs

-- fewer bytes are left after a character
pub less_after : {u v : Place} {c : ℕ} → CharAt u c v → length v.text - v.at < length u.text - u.at
less_after char = less_left {test = λ c. true} stop char
