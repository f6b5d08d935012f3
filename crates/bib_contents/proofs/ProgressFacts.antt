-- Facts about the characters that a cursor passes.
use Rattle.std.proofs.Common.{◌≡◌, ℕ, ◌+◌, Bool, true, false, List, [], ◌∷◌, ◌++◌, refl, sym, ap, ◌∙◌, subst, arith, append_assoc, Option, None, Some, MatchOption, MatchBool}
use Rattle.std.specs.Prelude.{◌==◌, encode_utf8_all}
use Rattle.std.specs.List.{list_all}
use Rattle.std.specs.Str.{chars, IsUtf8}
use Rattle.std.proofs.lemmas.Bool.{eqb-true, false_from_ne_true}
use Rattle.std.proofs.lemmas.Str.{encodes-chars}
use Rattle.bib_text.specs.Places.{Place, CharAt, Longest, Stops, AtEnd, between}
use Rattle.bib_text.proofs.PlaceFacts.{char_here}
use Rattle.bib_text.proofs.TextFacts.{ahead, MovesPast, joined_bytes, joined_offset, passed_char, passed_run, passed_between, chars_at_end, chars_whole}
use Rattle.bib_contents.specs.Contents.{begins}
use Rattle.bib_contents.specs.Progress.{left, Passes}

-- a run of characters in the bytes of a text is a run of its characters
pub passes : {u v : Place} {cs : List ℕ} → MovesPast u cs v → Passes u cs v
passes passed = record { same = passed.same; here = passed.here; next = passed.next; left = passed.spelt }

-- one run of characters after another is one run
pub passes_then : {u v w : Place} {cs ds : List ℕ} → Passes u cs v → Passes v ds w → Passes u (cs ++ ds) w
passes_then {u} {v} {w} {cs} {ds} first second =
    record {
      same = second.same ∙ first.same;
      here = joined_bytes cs ds _ _ _ first.here second.here;
      next = joined_offset cs ds _ _ _ first.next second.next;
      left = first.left ∙ ap (λ bs. cs ++ bs) second.left ∙ sym (append_assoc cs ds _);
    }

-- from a place to itself no character is passed
pub passes_none : (u : Place) → Passes u [] u
passes_none u = record { same = refl; here = refl; next = omega arith; left = refl }

-- in UTF-8 text, the first of the characters left is at the cursor
pub stands : (u : Place) (c : ℕ) (rest : List ℕ) → IsUtf8 (ahead u) → left u ≡ c ∷ rest → (v : Place) × CharAt u c v
stands u c rest utf8 is = (_, char_here u.text (encode_utf8_all rest) u.at c (sym (encodes-chars (ahead u) utf8) ∙ ap encode_utf8_all is))

-- in UTF-8 text, the remaining characters are the one at the place and those after it
pub stands_left : {u v : Place} {c : ℕ} → CharAt u c v → IsUtf8 (ahead u) → left u ≡ c ∷ left v
stands_left char utf8 = (passed_char char utf8).spelt

-- in UTF-8 text, the character at a place is the first of the characters left there, and at the end of the text none are left
pub peeked : (u : Place) (found : Option ℕ) → IsUtf8 (ahead u)
    → MatchOption found (AtEnd u) (λ c. (v : Place) × CharAt u c v)
    → MatchOption found (left u ≡ []) (λ c. (rest : List ℕ) × (left u ≡ c ∷ rest))
peeked u None utf8 end = chars_at_end u end
peeked u (Some c) utf8 char = (_, stands_left char.1 utf8)

-- in UTF-8 text, eating a character passes it, and at the end of the text nothing is passed
pub taken : (u v : Place) (found : Option ℕ) → IsUtf8 (ahead u)
    → MatchOption found (AtEnd u × (v ≡ u)) (λ c. CharAt u c v)
    → MatchOption found ((left u ≡ []) × (v ≡ u)) (λ c. Passes u (c ∷ []) v)
taken u v None utf8 end = (chars_at_end u end.0, end.1)
taken u v (Some c) utf8 char = passes (passed_char char utf8)

-- eating a character leaves the text unchanged
pub taken_same : (u v : Place) (found : Option ℕ) → MatchOption found (AtEnd u × (v ≡ u)) (λ c. CharAt u c v) → v.text ≡ u.text
taken_same u v None end = ap (λ w. w.text) end.1
taken_same u v (Some c) char = char.same

-- after eating a character, the bytes that are left are UTF-8
pub taken_utf8 : (u v : Place) (found : Option ℕ) → IsUtf8 (ahead u)
    → MatchOption found (AtEnd u × (v ≡ u)) (λ c. CharAt u c v) → IsUtf8 (ahead v)
taken_utf8 u v None utf8 end = rw end.1 utf8
taken_utf8 u v (Some c) utf8 char = (passed_char char utf8).utf8

-- in UTF-8 text, if the character at a place fails a test, the first of the characters left fails it
pub begins_not : (test : ℕ → Bool) (u : Place) (cs : List ℕ) → IsUtf8 (ahead u) → left u ≡ cs → Stops test u → begins test cs ≡ false
begins_not test u [] utf8 is stops = refl
begins_not test u (c ∷ cs) utf8 is stops = let here = stands u c cs utf8 is in stops c here.0 here.1

-- in UTF-8 text, eating a character if it is `c` passes it, or the characters left don't begin with it
pub taken_if : (u v : Place) (c : ℕ) (found : Bool) → IsUtf8 (ahead u)
    → MatchBool found (CharAt u c v) ((v ≡ u) × ((w : Place) → CharAt u c w → ⊥))
    → MatchBool found (Passes u (c ∷ []) v) ((v ≡ u) × (begins (λ d. d == c) (left u) ≡ false))
taken_if u v c true utf8 char = passes (passed_char char utf8)
taken_if u v c false utf8 none = (
  none.0,
  begins_not (λ d. d == c) u (left u) utf8 refl
      (λ d w char.
      false_from_ne_true (d == c) (λ same. none.1 w (subst (λ x. CharAt u x w) (eqb-true d c same) char))),
)

-- eating a character if it is `c` leaves the text unchanged
pub taken_if_same : (u v : Place) (c : ℕ) (found : Bool)
    → MatchBool found (CharAt u c v) ((v ≡ u) × ((w : Place) → CharAt u c w → ⊥)) → v.text ≡ u.text
taken_if_same u v c true char = char.same
taken_if_same u v c false none = ap (λ w. w.text) none.0

-- after eating a character if it is `c`, the bytes that are left are UTF-8
pub taken_if_utf8 : (u v : Place) (c : ℕ) (found : Bool) → IsUtf8 (ahead u)
    → MatchBool found (CharAt u c v) ((v ≡ u) × ((w : Place) → CharAt u c w → ⊥)) → IsUtf8 (ahead v)
taken_if_utf8 u v c true utf8 char = (passed_char char utf8).utf8
taken_if_utf8 u v c false utf8 none = rw none.0 utf8

-- in UTF-8 text, eating the longest run of characters that pass a test passes them, and no character that passes it follows
pub taken_while : (test : ℕ → Bool) (u v : Place) (eaten : List ℕ) → IsUtf8 (ahead u) → IsUtf8 eaten → Longest test u v
    → eaten ≡ between u v
    → Passes u (chars eaten) v × (list_all test (chars eaten) ≡ true) × (begins test (left v) ≡ false)
taken_while test u v eaten utf8 text longest is =
    let passed = passed_run longest.run utf8 in
    let same : chars eaten ≡ passed.0 = chars_whole passed.0 eaten text (is ∙ passed_between passed.1) in
    (rw same (passes passed.1), rw same passed.2, begins_not test v (left v) passed.1.utf8 refl longest.stops)

-- after the longest run of characters that pass a test, the bytes that are left are UTF-8
pub taken_while_utf8 : (test : ℕ → Bool) (u v : Place) → IsUtf8 (ahead u) → Longest test u v → IsUtf8 (ahead v)
taken_while_utf8 test u v utf8 longest = (passed_run longest.run utf8).1.utf8

-- the passed characters are those of the UTF-8 text between the places
pub passes_between : {u v : Place} {cs : List ℕ} → Passes u cs v → IsUtf8 (between u v)
    → between u v ≡ encode_utf8_all cs → chars (between u v) ≡ cs
passes_between {u} {v} {cs} passed utf8 is = chars_whole cs (between u v) utf8 is
