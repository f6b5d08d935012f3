-- The laws of titles in sentence case.
use Rattle.std.proofs.Common.{◌≡◌, ◌++◌, ◌<◌, ◌+◌, ℕ, suc, Bool, true, false, true≢false, not, cond, List, [], ◌∷◌, length, length-append, inl, inr, refl, sym, ap, ap₂, ◌∙◌, append_assoc, append-nil, arith}
use Rattle.std.specs.Prelude.{◌==◌, ◌||◌, ◌&&◌, nat_lt, nat_le, codes, encode_utf8, encode_utf8_all}
use Rattle.std.specs.Char.{is_whitespace}
use Rattle.std.specs.Char.Unicode.Alphabetic.{is_alphabetic, alphabetic_ranges}
use Rattle.std.specs.Char.Unicode.Numeric.{is_numeric, numeric_ranges}
use Rattle.std.specs.Char.Unicode.Rows.{Range, in_ranges}
use Rattle.std.specs.List.{list_all, list_any}
use Rattle.std.specs.Str.{chars}
use Rattle.std.proofs.lemmas.Str.{encodes-append}
use Rattle.std.proofs.lemmas.Bool.Decides.{nat_tests}
use Rattle.std.proofs.lemmas.Bool.{and_from, and_parts, or_cases, false_from_ne_true, not-true, eqb-true}
use Rattle.bib_csl.specs.declared.sentence.Context.{Context}
use Rattle.bib_csl.specs.declared.sentence.Sentence.{Sentence}
use Rattle.bib_csl.specs.declared.sentence.Sentence.TheVariants.{Begins, AfterMark, AfterStop, Inside}
use Rattle.bib_csl.specs.Sentence.{cased, cased_from, context_after, context_in_text, begins_by, begins_tag, keeps_case, is_letter_or_digit, is_plain_in_title, continues_word, is_in_word_after, is_ordinary_word, is_enclosing, sentence_part_after, after_space, first_letter, capital, small, title_start, title_in_sentence_case}

-- if characters that pass the test stay in such a context, and the context after each of them is such a one, too, then a text of them stays
run_stays : (test : ℕ → Bool) (Stays : Context → Type 0)
    → ((at : Context) (c : ℕ) (after : List ℕ) → Stays at → test c ≡ true → (cased at c after ≡ c) × Stays (context_after at c after))
    → (at : Context) → Stays at → (text rest : List ℕ) → list_all test text ≡ true
    → (end : Context) × (cased_from at (text ++ rest) ≡ encode_utf8_all text ++ cased_from end rest)
run_stays test Stays step at stays [] rest all = (at, refl)
run_stays test Stays step at stays (c ∷ cs) rest all =
    let parts = and_parts (test c) (list_all test cs) all in
    let here = step at c (encode_utf8_all (cs ++ rest)) stays parts.0 in
    let more = run_stays test Stays step (context_after at c (encode_utf8_all (cs ++ rest))) here.1 cs rest parts.1 in
    (more.0, ap₂ (λ d t. encode_utf8 d ++ t) here.0 more.1 ∙ sym (append_assoc (encode_utf8 c) (encode_utf8_all cs) _))

-- a character that isn't a less-than sign begins no tag
no_tag : (c : ℕ) (after : List ℕ) → (c == 60) ≡ false → begins_tag c after ≡ false
unfolding begins_tag
no_tag c after other = rw other refl

-- outside of tags, the context after a character that isn't a less-than sign is that in a text
in_text : (at : Context) (c : ℕ) (after : List ℕ) → at.is_in_tag ≡ false → (c == 60) ≡ false
    → context_after at c after ≡ context_in_text at c
unfolding context_after
in_text at c after outside other = rw outside (rw (no_tag c after other) refl)

-- ---- words

-- a less-than sign is no letter and no digit
no_letter : is_letter_or_digit 60 ≡ false
unfolding is_letter_or_digit is_alphabetic alphabetic_ranges is_numeric numeric_ranges in_ranges
no_letter = refl

-- a less-than sign doesn't continue a word
ends_word : continues_word 60 ≡ false
unfolding continues_word
ends_word = rw no_letter refl

-- a character that passes a test isn't one that fails it
differs : (test : ℕ → Bool) (c d : ℕ) → test d ≡ false → test c ≡ true → (c == d) ≡ false
differs test c d fails passes =
    false_from_ne_true (c == d) (λ same. true≢false (sym passes ∙ ap test (eqb-true c d same) ∙ fails))

-- a character that passes a test isn't a less-than sign, if that fails it
not_less : (test : ℕ → Bool) (c : ℕ) → test 60 ≡ false → test c ≡ true → (c == 60) ≡ false
not_less test c = differs test c 60

-- the next character can continue a word, and is not in a tag
abbrev IsInWord : Context → Type 0
IsInWord at = (at.is_in_word ≡ true) × (at.is_in_tag ≡ false)

fourth_is_true : (a b c d : Bool) → d ≡ true → (a || (b || (c || d))) ≡ true
fourth_is_true true b c d is = refl
fourth_is_true false true c d is = refl
fourth_is_true false false true d is = refl
fourth_is_true false false false d is = is

-- a character that continues a word stays, and after it the next one can continue the word
word_stays : (at : Context) (c : ℕ) (after : List ℕ) → IsInWord at → continues_word c ≡ true
    → (cased at c after ≡ c) × IsInWord (context_after at c after)
unfolding cased keeps_case context_in_text is_in_word_after
word_stays at c after stays goes =
    let next = in_text at c after stays.1 (not_less continues_word c ends_word goes) in (
      rw stays.0 refl,
      (
        ap (λ n. n.is_in_word) next
            ∙ fourth_is_true (is_letter_or_digit c) (c == 36) (c == 92) _ (and_from at.is_in_word (continues_word c) stays.0 goes),
        ap (λ n. n.is_in_tag) next,
      ),
    )

-- after a letter outside of tags, the next character can continue a word
letter_begins : (at : Context) (c : ℕ) (after : List ℕ) → at.is_in_tag ≡ false → is_letter_or_digit c ≡ true
    → IsInWord (context_after at c after)
unfolding context_in_text is_in_word_after
letter_begins at c after outside letter =
    let next = in_text at c after outside (not_less is_letter_or_digit c no_letter letter) in (
      ap (λ n. n.is_in_word) next ∙ rw letter refl,
      ap (λ n. n.is_in_tag) next,
    )

second_is_false : (a b c : Bool) → (a || (b || c)) ≡ false → b ≡ false
second_is_false false false c is = refl
second_is_false false true c is = is
second_is_false true b c is = absurd (true≢false is)

outside_of_tags : (at : Context) → keeps_case at ≡ false → at.is_in_tag ≡ false
unfolding keeps_case
outside_of_tags at changes = second_is_false at.is_in_word at.is_in_tag _ changes

pub word_changes_at_start : (at : Context) (c : ℕ) (word rest : List ℕ) → keeps_case at ≡ false → is_letter_or_digit c ≡ true
    → list_all continues_word word ≡ true
    → (end : Context) × (cased_from at (c ∷ (word ++ rest))
    ≡ encode_utf8 (cased at c (encode_utf8_all (word ++ rest))) ++ (encode_utf8_all word ++ cased_from end rest))
word_changes_at_start at c word rest changes letter goes =
    let bytes = encode_utf8_all (word ++ rest) in
    let begun = letter_begins at c bytes (outside_of_tags at changes) letter in
    let more = run_stays continues_word IsInWord word_stays (context_after at c bytes) begun word rest goes in
    (more.0, ap (λ t. encode_utf8 (cased at c bytes) ++ t) more.1)

-- ---- text that keeps its case

-- the next character is in an element that keeps its case, and not in a tag
abbrev IsKept : Context → Type 0
IsKept at = (0 < at.depth) × (at.is_in_tag ≡ false)

above_zero : (n : ℕ) → 0 < n → nat_lt 0 n ≡ true
above_zero n h = grind (arith, nat_tests)

-- a character in such an element stays
kept_stays : (at : Context) (c : ℕ) (after : List ℕ) → IsKept at → not (c == 60) ≡ true
    → (cased at c after ≡ c) × IsKept (context_after at c after)
unfolding cased keeps_case context_in_text
kept_stays at c after stays other =
    let next = in_text at c after stays.1 (not-true (c == 60) other) in (
      rw (fourth_is_true at.is_in_word at.is_in_tag at.is_in_math (nat_lt 0 at.depth) (above_zero at.depth stays.0)) refl,
      (rw next stays.0, ap (λ n. n.is_in_tag) next),
    )

pub kept_text : (at : Context) (text rest : List ℕ) → 0 < at.depth → at.is_in_tag ≡ false → list_all (λ c. not (c == 60)) text ≡ true
    → (end : Context) × (cased_from at (text ++ rest) ≡ encode_utf8_all text ++ cased_from end rest)
kept_text at text rest deep outside all = run_stays (λ c. not (c == 60)) IsKept kept_stays at (deep, outside) text rest all

-- ---- letters, white space and marks

-- whether two ranges have no common number
abbrev is_apart : Range → Range → Bool
is_apart r s = nat_lt r.1 s.0 || nat_lt s.1 r.0

-- a number of a range isn't in another range that is apart from it
not_in_other : (low high from to c : ℕ) → (nat_le low c && nat_le c high) ≡ true → (nat_lt high from || nat_lt to low) ≡ true
    → (nat_le from c && nat_le c to) ≡ false
not_in_other low high from to c within apart = grind (arith, nat_tests)

-- a number of a range isn't in ranges that are apart from it
not_in_others : (r : Range) (rs : List Range) (c : ℕ) → (nat_le r.0 c && nat_le c r.1) ≡ true → list_all (is_apart r) rs ≡ true
    → in_ranges rs c ≡ false
unfolding in_ranges
not_in_others r [] c within apart = refl
not_in_others r (s ∷ ss) c within apart =
    let parts = and_parts (is_apart r s) (list_all (is_apart r) ss) apart in
    ap₂ (λ a b. a || b) (not_in_other r.0 r.1 s.0 s.1 c within parts.0) (not_in_others r ss c within parts.1)

-- a number of some ranges isn't in ranges that are apart from each of them
apart_from_all : (rs ss : List Range) (c : ℕ) → in_ranges rs c ≡ true → list_all (λ r. list_all (is_apart r) ss) rs ≡ true
    → in_ranges ss c ≡ false
unfolding in_ranges
apart_from_all [] ss c is apart = absurd (true≢false (sym is))
apart_from_all (r ∷ rs) ss c is apart =
    let parts = and_parts (list_all (is_apart r) ss) (list_all (λ t. list_all (is_apart t) ss) rs) apart in
    elim (or_cases (nat_le r.0 c && nat_le c r.1) (in_ranges rs c) is) [
      | inl here ↦ not_in_others r ss c here parts.0
      | inr there ↦ apart_from_all rs ss c there parts.1
    ]

-- the ranges of white space
abbrev white_ranges : List Range
white_ranges =
    (9, 13)
    ∷ (32, 32)
    ∷ (133, 133)
    ∷ (160, 160)
    ∷ (5760, 5760)
    ∷ (8192, 8202)
    ∷ (8232, 8233)
    ∷ (8239, 8239)
    ∷ (8287, 8287)
    ∷ (12288, 12288)
    ∷ []

-- white space is in one of these ranges
white_in : (c : ℕ) → is_whitespace c ≡ true → in_ranges white_ranges c ≡ true
unfolding in_ranges
white_in c white = grind (arith, nat_tests)

-- white space is neither a letter nor a digit
white_no_letter : (c : ℕ) → is_whitespace c ≡ true → is_letter_or_digit c ≡ false
unfolding is_letter_or_digit is_alphabetic alphabetic_ranges is_numeric numeric_ranges
white_no_letter c white =
    ap₂ (λ a b. a || b) (apart_from_all white_ranges alphabetic_ranges c (white_in c white) refl)
    (apart_from_all white_ranges numeric_ranges c (white_in c white) refl)

-- a letter or a digit isn't white space
letter_no_white : (c : ℕ) → is_letter_or_digit c ≡ true → is_whitespace c ≡ false
letter_no_white c letter = false_from_ne_true (is_whitespace c) (λ white. true≢false (sym letter ∙ white_no_letter c white))

-- a character of a list fails a test that all characters of the list fail
listed_fails : (test : ℕ → Bool) (c : ℕ) (marks : List ℕ) → list_all (λ m. not (test m)) marks ≡ true
    → list_any (λ m. c == m) marks ≡ true → test c ≡ false
listed_fails test c [] fail is = absurd (true≢false (sym is))
listed_fails test c (m ∷ ms) fail is =
    let parts = and_parts (not (test m)) (list_all (λ n. not (test n)) ms) fail in
    elim (or_cases (c == m) (list_any (λ n. c == n) ms) is) [
      | inl same ↦ ap test (eqb-true c m same) ∙ not-true (test m) parts.0
      | inr later ↦ listed_fails test c ms parts.1 later
    ]

-- a quotation mark, a parenthesis or a bracket is neither a letter nor a digit
enclosing_no_letter : (c : ℕ) → is_enclosing c ≡ true → is_letter_or_digit c ≡ false
unfolding is_enclosing is_letter_or_digit is_alphabetic alphabetic_ranges is_numeric numeric_ranges in_ranges
enclosing_no_letter c is = listed_fails is_letter_or_digit c (codes "\"'`()[]“”‘’«»„‚‹›") refl is

-- a letter or a digit is none of these marks
letter_no_enclosing : (c : ℕ) → is_letter_or_digit c ≡ true → is_enclosing c ≡ false
letter_no_enclosing c letter =
    false_from_ne_true (is_enclosing c) (λ is. true≢false (sym letter ∙ enclosing_no_letter c is))

-- these characters are neither letters, digits nor white space: ! $ . : < ? and the backslash
marks_not_plain : list_all (λ m. not (is_plain_in_title m)) (codes "!$.:<?\\") ≡ true
unfolding is_plain_in_title is_letter_or_digit is_alphabetic alphabetic_ranges is_numeric numeric_ranges in_ranges
marks_not_plain = refl

-- a plain character isn't one of these characters
plain_differs : (c d : ℕ) → is_plain_in_title c ≡ true → list_any (λ m. d == m) (codes "!$.:<?\\") ≡ true → (c == d) ≡ false
plain_differs c d plain is = differs is_plain_in_title c d (listed_fails is_plain_in_title d (codes "!$.:<?\\") marks_not_plain is) plain

-- a letter or a digit is plain
letter_is_plain : (c : ℕ) → is_letter_or_digit c ≡ true → is_plain_in_title c ≡ true
unfolding is_plain_in_title
letter_is_plain c letter = rw letter refl

-- white space is plain
white_is_plain : (c : ℕ) → is_whitespace c ≡ true → is_plain_in_title c ≡ true
unfolding is_plain_in_title
white_is_plain c white = ap₂ (λ a b. a || b) (white_no_letter c white) white

-- ---- parts of a sentence

-- after a letter or a digit, the next character is in the middle of a sentence
letter_inside : (before : Sentence) (c : ℕ) → is_letter_or_digit c ≡ true → sentence_part_after before c ≡ Inside
unfolding sentence_part_after
letter_inside before c letter =
    by (is_whitespace c) (is_enclosing c) (c == 46) (c == 63) (c == 33) (c == 58) (letter_no_white c letter)
    (letter_no_enclosing c letter) (other 46 refl) (other 63 refl) (other 33 refl) (other 58 refl)
  where
    other : (d : ℕ) → list_any (λ m. d == m) (codes "!$.:<?\\") ≡ true → (c == d) ≡ false
    other d is = plain_differs c d (letter_is_plain c letter) is

    by : (white enclosing point question exclamation colon : Bool) → white ≡ false → enclosing ≡ false → point ≡ false
        → question ≡ false → exclamation ≡ false → colon ≡ false
        → cond white (after_space before) (cond enclosing before (cond point AfterStop
        (cond (question || (exclamation || colon)) AfterMark Inside)))
        ≡ Inside
    by white enclosing point question exclamation colon a b d e f g = rw a (rw b (rw d (rw e (rw f (rw g refl)))))

-- after a plain character in the middle of a sentence, the next one is in it, too
plain_inside : (c : ℕ) → is_plain_in_title c ≡ true → sentence_part_after Inside c ≡ Inside
unfolding sentence_part_after
plain_inside c plain =
    by (is_whitespace c) (is_enclosing c) (c == 46) (c == 63) (c == 33) (c == 58) (plain_differs c 46 plain refl)
    (plain_differs c 63 plain refl) (plain_differs c 33 plain refl) (plain_differs c 58 plain refl)
  where
    by : (white enclosing point question exclamation colon : Bool) → point ≡ false → question ≡ false → exclamation ≡ false
        → colon ≡ false
        → cond white Inside (cond enclosing Inside (cond point AfterStop (cond (question || (exclamation || colon)) AfterMark Inside)))
        ≡ Inside
    by true enclosing point question exclamation colon d e f g = refl
    by false true point question exclamation colon d e f g = refl
    by false false point question exclamation colon d e f g = rw d (rw e (rw f (rw g refl)))

-- after a question mark, an exclamation mark or a colon, the next character directly follows a mark
mark_ends : (before : Sentence) (mark : ℕ) → (mark == 63 || (mark == 33 || mark == 58)) ≡ true
    → sentence_part_after before mark ≡ AfterMark
unfolding sentence_part_after is_enclosing
mark_ends before mark is =
    elim (or_cases (mark == 63) (mark == 33 || mark == 58) is) [
      | inl same ↦ rw (eqb-true mark 63 same) refl
      | inr other ↦ elim (or_cases (mark == 33) (mark == 58) other) [
        | inl same ↦ rw (eqb-true mark 33 same) refl
        | inr same ↦ rw (eqb-true mark 58 same) refl
      ]
    ]

-- white space changes the part of the sentence as `after_space` says
space_goes_on : (before : Sentence) (c : ℕ) → is_whitespace c ≡ true → sentence_part_after before c ≡ after_space before
unfolding sentence_part_after
space_goes_on before c white = by (is_whitespace c) _ white
  where
    by : (is : Bool) (other : Sentence) → is ≡ true → cond is (after_space before) other ≡ after_space before
    by is other e = rw e refl

-- ---- words that change

-- the next character is in no tag, no math and no element that keeps its case
abbrev IsOutside : Context → Type 0
IsOutside at = (at.is_in_tag ≡ false) × (at.is_in_math ≡ false) × (at.depth ≡ 0)

-- outside of these, the context after a character that is neither a less-than sign nor a dollar sign is outside of them
outside_stays : (at : Context) (c : ℕ) (after : List ℕ) → IsOutside at → (c == 60) ≡ false → (c == 36) ≡ false
    → IsOutside (context_after at c after)
unfolding context_in_text
outside_stays at c after outside less dollar = rw (in_text at c after outside.0 less) (refl, rw dollar outside.1, outside.2)

-- outside of these, the part of the sentence after a character that isn't a less-than sign depends only on this character and on the part
-- before it
sentence_outside : (at : Context) (c : ℕ) (after : List ℕ) → IsOutside at → (c == 60) ≡ false
    → (context_after at c after).sentence ≡ sentence_part_after at.sentence c
unfolding context_in_text
sentence_outside at c after outside less = ap (λ n. n.sentence) (in_text at c after outside.0 less)

-- outside of these, no word goes on after white space
space_ends_word : (at : Context) (c : ℕ) (after : List ℕ) → IsOutside at → is_whitespace c ≡ true
    → (context_after at c after).is_in_word ≡ false
unfolding context_in_text is_in_word_after continues_word
space_ends_word at c after outside white =
    let plain = white_is_plain c white in
    let letter = white_no_letter c white in
    ap (λ n. n.is_in_word) (in_text at c after outside.0 (plain_differs c 60 plain refl))
    ∙ by at.is_in_word (is_letter_or_digit c) (c == 36) (c == 92) (c == 46) (c == 39) (c == 8217) letter (plain_differs c 36 plain refl)
    (plain_differs c 92 plain refl) (plain_differs c 46 plain refl) (differs is_whitespace c 39 refl white)
    (differs is_whitespace c 8217 refl white)
  where
    by : (word letter dollar backslash point apostrophe quote : Bool) → letter ≡ false → dollar ≡ false → backslash ≡ false
        → point ≡ false → apostrophe ≡ false → quote ≡ false
        → (letter || (dollar || (backslash || (word && (letter || (point || (apostrophe || quote))))))) ≡ false
    by false letter dollar backslash point apostrophe quote a b d e f g = rw a (rw b (rw d refl))
    by true letter dollar backslash point apostrophe quote a b d e f g = rw a (rw b (rw d (rw e (rw f (rw g refl)))))

-- outside of these, the first letter of an ordinary word changes by the part of the sentence
word_changes : (at : Context) (c : ℕ) (after : List ℕ) → IsOutside at → at.is_in_word ≡ false → is_letter_or_digit c ≡ true
    → is_ordinary_word c after ≡ true → cased at c after ≡ first_letter at.sentence c
unfolding cased keeps_case
word_changes at c after outside starts letter ordinary =
    rw starts (rw outside.0 (rw outside.1 (rw outside.2 (rw letter (rw ordinary refl)))))

-- if characters keep a property of the context, it holds after a text of them, and each of them is written as one character
text_goes : (test : ℕ → Bool) (Holds : Context → Type 0)
    → ((at : Context) (c : ℕ) (after : List ℕ) → Holds at → test c ≡ true → Holds (context_after at c after)) → (at : Context)
    → Holds at → (text rest : List ℕ) → list_all test text ≡ true
    → (written : List ℕ) × (end : Context) × Holds end × (length written ≡ length text)
    × (cased_from at (text ++ rest) ≡ encode_utf8_all written ++ cased_from end rest)
text_goes test Holds step at holds [] rest all = ([], at, holds, refl, refl)
text_goes test Holds step at holds (c ∷ cs) rest all =
    let parts = and_parts (test c) (list_all test cs) all in
    let bytes = encode_utf8_all (cs ++ rest) in
    let d = cased at c bytes in
    let more = text_goes test Holds step (context_after at c bytes) (step at c bytes holds parts.0) cs rest parts.1 in (
      d ∷ more.0,
      more.1,
      more.2,
      ap suc more.3,
      ap (λ t. encode_utf8 d ++ t) more.4 ∙ sym (append_assoc (encode_utf8 d) (encode_utf8_all more.0) _),
    )

-- after a plain character outside of tags, math and elements that keep their case, the next one is outside of them, too
plain_outside : (at : Context) (c : ℕ) (after : List ℕ) → IsOutside at → is_plain_in_title c ≡ true → IsOutside (context_after at c after)
plain_outside at c after outside plain =
    outside_stays at c after outside (plain_differs c 60 plain refl) (plain_differs c 36 plain refl)

-- the next character is outside of these, in the middle of a sentence
abbrev IsInside : Context → Type 0
IsInside at = IsOutside at × (at.sentence ≡ Inside)

-- after a plain character in the middle of a sentence, the next one is in it, too
plain_stays_inside : (at : Context) (c : ℕ) (after : List ℕ) → IsInside at → is_plain_in_title c ≡ true
    → IsInside (context_after at c after)
plain_stays_inside at c after inside plain = (
  plain_outside at c after inside.0 plain,
  sentence_outside at c after inside.0 (plain_differs c 60 plain refl)
      ∙ ap (λ s. sentence_part_after s c) inside.1 ∙ plain_inside c plain,
)

-- after a letter or a digit outside of these, the next character is in the middle of a sentence
letter_starts : (at : Context) (c : ℕ) (after : List ℕ) → IsOutside at → is_letter_or_digit c ≡ true → IsInside (context_after at c after)
letter_starts at c after outside letter =
    let plain = letter_is_plain c letter in (
      plain_outside at c after outside plain,
      sentence_outside at c after outside (plain_differs c 60 plain refl) ∙ letter_inside at.sentence c letter,
    )

-- after white space outside of these, the first letter of an ordinary word changes by the part of the sentence
word_after_space : (at : Context) (space c : ℕ) (rest : List ℕ) (begins : Sentence) → IsOutside at
    → after_space at.sentence ≡ begins → is_whitespace space ≡ true → is_letter_or_digit c ≡ true
    → is_ordinary_word c (encode_utf8_all rest) ≡ true
    → (d : ℕ) × (end : Context)
    × (cased_from at (space ∷ (c ∷ rest)) ≡ encode_utf8 d ++ (encode_utf8 (first_letter begins c) ++ cased_from end rest))
word_after_space at space c rest begins outside is white letter ordinary =
    let bytes = encode_utf8_all (c ∷ rest) in
    let after = encode_utf8_all rest in
    let d = cased at space bytes in
    let next = context_after at space bytes in
    let end = context_after next c after in
    let plain = white_is_plain space white in
    let starts = space_ends_word at space bytes outside white in
    let changes = word_changes next c after (plain_outside at space bytes outside plain) starts letter ordinary in
    let part : next.sentence ≡ begins =
    sentence_outside at space bytes outside (plain_differs space 60 plain refl) ∙ space_goes_on at.sentence space white ∙ is in
    (d, end, ap (λ e. encode_utf8 d ++ (encode_utf8 e ++ cased_from end rest)) (changes ∙ ap (λ s. first_letter s c) part))

-- the bytes of characters and of one more are those of a list with one more
one_more : (written : List ℕ) (d : ℕ) (more : List ℕ)
    → encode_utf8_all written ++ (encode_utf8 d ++ more) ≡ encode_utf8_all (written ++ (d ∷ [])) ++ more
one_more written d more =
    let joined : encode_utf8_all (written ++ (d ∷ [])) ≡ encode_utf8_all written ++ encode_utf8 d =
    encodes-append written (d ∷ []) ∙ ap (λ bs. encode_utf8_all written ++ bs) (append-nil (encode_utf8 d)) in
    sym (append_assoc (encode_utf8_all written) (encode_utf8 d) more) ∙ ap (λ bs. bs ++ more) (sym joined)

-- a title starts outside of tags, math and elements that keep their case
start_outside : IsOutside title_start
start_outside = (refl, refl, refl)

-- ---- the words of a title

-- an ordinary word at the start of a title gets a capital
pub first_word : (title : List ℕ) (c : ℕ) (rest : List ℕ) → chars title ≡ c ∷ rest → is_letter_or_digit c ≡ true
    → is_ordinary_word c (encode_utf8_all rest) ≡ true
    → (end : Context) × (title_in_sentence_case title ≡ encode_utf8 (capital c) ++ cased_from end rest)
unfolding title_in_sentence_case
first_word title c rest is letter ordinary =
    let bytes = encode_utf8_all rest in
    let end = context_after title_start c bytes in
    let changes = word_changes title_start c bytes start_outside refl letter ordinary in
    (end, ap (cased_from title_start) is ∙ ap (λ d. encode_utf8 d ++ cased_from end rest) changes)

-- an ordinary word after plain text that begins with a letter or a digit, and white space, gets a small letter
pub later_word : (title before : List ℕ) (space c : ℕ) (rest : List ℕ) → chars title ≡ before ++ (space ∷ (c ∷ rest))
    → begins_by is_letter_or_digit before ≡ true → list_all is_plain_in_title before ≡ true → is_whitespace space ≡ true
    → is_letter_or_digit c ≡ true → is_ordinary_word c (encode_utf8_all rest) ≡ true
    → (written : List ℕ) × (end : Context) × (length written ≡ length before + 1)
    × (title_in_sentence_case title ≡ encode_utf8_all written ++ (encode_utf8 (small c) ++ cased_from end rest))
unfolding title_in_sentence_case
later_word title [] space c rest is first plain white letter ordinary = absurd (true≢false (sym first))
later_word title (f ∷ fs) space c rest is first plain white letter ordinary =
    let bytes = encode_utf8_all (fs ++ (space ∷ (c ∷ rest))) in
    let d = cased title_start f bytes in
    let inside = letter_starts title_start f bytes start_outside first in
    let all = (and_parts (is_plain_in_title f) (list_all is_plain_in_title fs) plain).1 in
    let next = context_after title_start f bytes in
    let text = text_goes is_plain_in_title IsInside plain_stays_inside next inside fs (space ∷ (c ∷ rest)) all in
    let word = word_after_space text.1 space c rest Inside text.2.0 (ap after_space text.2.1) white letter ordinary in
    let seen = d ∷ text.0 in (
      seen ++ (word.0 ∷ []),
      word.1,
      length-append seen (word.0 ∷ []) ∙ ap (λ n. suc n + 1) text.3,
      ap (cased_from title_start) is
          ∙ ap (λ t. encode_utf8 d ++ t) (text.4 ∙ ap (λ t. encode_utf8_all text.0 ++ t) word.2)
          ∙ sym (append_assoc (encode_utf8 d) (encode_utf8_all text.0) _) ∙ one_more seen word.0 _,
    )

-- an ordinary word after plain text, a mark that ends a sentence and white space gets a capital
pub word_after_mark : (title before : List ℕ) (mark space c : ℕ) (rest : List ℕ)
    → chars title ≡ before ++ (mark ∷ (space ∷ (c ∷ rest))) → list_all is_plain_in_title before ≡ true
    → (mark == 63 || (mark == 33 || mark == 58)) ≡ true → is_whitespace space ≡ true → is_letter_or_digit c ≡ true
    → is_ordinary_word c (encode_utf8_all rest) ≡ true
    → (written : List ℕ) × (end : Context) × (length written ≡ length before + 2)
    × (title_in_sentence_case title ≡ encode_utf8_all written ++ (encode_utf8 (capital c) ++ cased_from end rest))
unfolding title_in_sentence_case
word_after_mark title before mark space c rest is plain ends white letter ordinary =
    let text = text_goes is_plain_in_title IsOutside plain_outside title_start start_outside before (mark ∷ (space ∷ (c ∷ rest))) plain in
    let bytes = encode_utf8_all (space ∷ (c ∷ rest)) in
    let d = cased text.1 mark bytes in
    let next = context_after text.1 mark bytes in
    let test : ℕ → Bool = λ m. m == 63 || (m == 33 || m == 58) in
    let less = differs test mark 60 refl ends in
    let outside = outside_stays text.1 mark bytes text.2 less (differs test mark 36 refl ends) in
    let part = sentence_outside text.1 mark bytes text.2 less ∙ mark_ends text.1.sentence mark ends in
    let word = word_after_space next space c rest Begins outside (ap after_space part) white letter ordinary in
    let seen = text.0 ++ (d ∷ []) in
    let length_seen : length seen ≡ length before + 1 = length-append text.0 (d ∷ []) ∙ ap (λ n. n + 1) text.3 in
    let more = encode_utf8 (capital c) ++ cased_from word.1 rest in (
      seen ++ (word.0 ∷ []),
      word.1,
      length-append seen (word.0 ∷ []) ∙ omega (arith, length_seen),
      ap (cased_from title_start) is ∙ text.4 ∙ ap (λ t. encode_utf8_all text.0 ++ (encode_utf8 d ++ t)) word.2
          ∙ one_more text.0 d (encode_utf8 word.0 ++ more) ∙ one_more seen word.0 more,
    )
